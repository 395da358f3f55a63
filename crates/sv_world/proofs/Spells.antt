-- The nodes that spell a tree spell that tree, whatever stands behind them.
use Rattle.std.proofs.Common.{◌≡◌, ℕ, suc, List, [], ◌∷◌, ◌++◌, length, map, drop, refl, sym, ap, ◌∙◌, subst, append_assoc, eq-eqb}
use Rattle.std.proofs.lemmas.List.{append-nil}
use Rattle.sv_world.specs.declared.action.Expr.{Expr}
use Rattle.sv_world.specs.declared.action.Expr.TheVariants as expr
use Rattle.sv_world.specs.declared.action.Cond.{Cond}
use Rattle.sv_world.specs.declared.action.Cond.TheVariants as test
use Rattle.sv_world.specs.declared.action.Stmt.{Stmt, map-Stmt}
use Rattle.sv_world.specs.declared.action.Stmt.TheVariants as stmt
use Rattle.sv_world.specs.declared.action.Stmt.TheOpen.{Stmt-F}
use Rattle.sv_world.specs.declared.action.Stmt.TheViews.{roll-Stmt}
use Rattle.sv_world.specs.declared.action.Stmt.TheFolds.{ind-Stmt}
use Rattle.sv_world.specs.declared.node.Node.{Node}
use Rattle.sv_world.specs.declared.node.Operator.{Operator}
use Rattle.sv_world.specs.declared.node.Comparison.{Comparison}
use Rattle.sv_world.specs.declared.node.Connective.{Connective}
use Rattle.sv_world.specs.Parts.{binary_by, compare_by, join_by, Part, Expression, Condition, Statement, Block, first, second, third, binary, comparison, connective, negated, assignment, choice, with_statement, block, kept, sized, parts, block_in, IsBody}
use Rattle.sv_world.specs.Spelled.{expr_spelled, cond_spelled, stmt_spelled, run_spelled, body_spelled}
use Rattle.sv_world.proofs.Layers.{lit_spelled, attr_spelled, binary_spelled, compare_spelled, join_spelled, not_spelled, set_spelled, if_spelled}
use Rattle.sv_world.proofs.TreeInduction.{each_expr, each_cond}

-- The nodes u spell p, whatever stands behind them.
abbrev Spells : List Node → Part → Type 0
Spells u p = (ns : List Node) → parts (u ++ ns) ≡ p ∷ parts ns

-- Nodes one after the other.
two : (u v : List Node) (p q : Part) → Spells u p → Spells v q → (ns : List Node) → parts ((u ++ v) ++ ns) ≡ p ∷ q ∷ parts ns
two u v p q left right ns =
    ap parts (append_assoc u v ns) ∙ left (v ++ ns) ∙ ap (λ (ps : List Part). p ∷ ps) (right ns)

three : (u v w : List Node) (p q r : Part) → Spells u p → Spells v q → Spells w r → (ns : List Node) → parts (((u ++ v) ++ w) ++ ns) ≡ p ∷ q ∷ r ∷ parts ns
three u v w p q r a b c ns =
    ap parts (append_assoc (u ++ v) w ns) ∙ two u v p q a b (w ++ ns) ∙ ap (λ (ps : List Part). p ∷ q ∷ ps) (c ns)

-- ---- expressions

abbrev ExprSpells : Expr → Type 0
ExprSpells e = Spells (expr_spelled e) (Expression e)

lit_spells : (n : _) → ExprSpells (expr.Lit n)
lit_spells n ns = ap (λ (u : List Node). parts (u ++ ns)) (lit_spelled n)

attr_spells : (slot attr : ℕ) → ExprSpells (expr.Attr slot attr)
attr_spells slot attr ns = ap (λ (u : List Node). parts (u ++ ns)) (attr_spelled slot attr)

binary_spells : (o : Operator) (a b : Expr) → ExprSpells a → ExprSpells b → ExprSpells (binary_by o a b)
binary_spells o a b left right ns =
    ap (λ (u : List Node). parts (u ++ ns)) (binary_spelled o a b)
    ∙ ap (λ (ps : List Part). binary o (first ps) (second ps) ∷ drop 2 ps) (two (expr_spelled a) (expr_spelled b) (Expression a) (Expression b) left right ns)

pub expr_spells : (e : Expr) (ns : List Node) → parts (expr_spelled e ++ ns) ≡ Expression e ∷ parts ns
expr_spells = each_expr ExprSpells lit_spells attr_spells binary_spells

-- ---- conditions

abbrev CondSpells : Cond → Type 0
CondSpells c = Spells (cond_spelled c) (Condition c)

compare_spells : (o : Comparison) (a b : Expr) → CondSpells (compare_by o a b)
compare_spells o a b ns =
    ap (λ (u : List Node). parts (u ++ ns)) (compare_spelled o a b)
    ∙ ap (λ (ps : List Part). comparison o (first ps) (second ps) ∷ drop 2 ps) (two (expr_spelled a) (expr_spelled b) (Expression a) (Expression b) (expr_spells a) (expr_spells b) ns)

join_spells : (o : Connective) (a b : Cond) → CondSpells a → CondSpells b → CondSpells (join_by o a b)
join_spells o a b left right ns =
    ap (λ (u : List Node). parts (u ++ ns)) (join_spelled o a b)
    ∙ ap (λ (ps : List Part). connective o (first ps) (second ps) ∷ drop 2 ps) (two (cond_spelled a) (cond_spelled b) (Condition a) (Condition b) left right ns)

not_spells : (a : Cond) → CondSpells a → CondSpells (test.Not a)
not_spells a one ns =
    ap (λ (u : List Node). parts (u ++ ns)) (not_spelled a)
    ∙ ap (λ (ps : List Part). negated (first ps) ∷ drop 1 ps) (one ns)

pub cond_spells : (c : Cond) (ns : List Node) → parts (cond_spelled c ++ ns) ≡ Condition c ∷ parts ns
cond_spells = each_cond CondSpells compare_spells join_spells not_spells

-- ---- statements and blocks

abbrev StmtSpells : Stmt → Type 0
StmtSpells s = Spells (stmt_spelled s) (Statement s)

abbrev BodySpells : List Stmt → Type 0
BodySpells xs = Spells (body_spelled xs) (Block xs)

set_spells : (slot attr : ℕ) (value : Expr) → StmtSpells (stmt.Set slot attr value)
set_spells slot attr value ns =
    ap (λ (u : List Node). parts (u ++ ns)) (set_spelled slot attr value)
    ∙ ap (λ (ps : List Part). assignment slot attr (first ps) ∷ drop 1 ps) (expr_spells value ns)

if_spells : (c : Cond) (xs ys : List Stmt) → BodySpells xs → BodySpells ys → StmtSpells (stmt.If c xs ys)
if_spells c xs ys left right ns =
    ap (λ (u : List Node). parts (u ++ ns)) (if_spelled c xs ys)
    ∙ ap (λ (ps : List Part). choice (first ps) (second ps) (third ps) ∷ drop 3 ps)
    (three (cond_spelled c) (body_spelled xs) (body_spelled ys) (Condition c) (Block xs) (Block ys) (cond_spells c) left right ns)

sized_right : (xs : List Stmt) → sized (length (run_spelled xs)) (Block xs) ≡ Block xs
sized_right xs = ap (λ (b : _). kept b xs) (eq-eqb (length (run_spelled xs)) (length (run_spelled xs)) refl)

-- Statements one after the other: how many they are, their block, and what stands behind them.
record IsRun (xs : List Stmt) (ns : List Node) : Type 0 where
  makes : block (length xs) (parts (run_spelled xs ++ ns)) ≡ Block xs
  behind : drop (length xs) (parts (run_spelled xs ++ ns)) ≡ parts ns

run_more : (s : Stmt) (xs : List Stmt) → StmtSpells s → (ns : List Node) → IsRun xs ns → IsRun (s ∷ xs) ns
run_more s xs one ns run =
    let front : parts ((stmt_spelled s ++ run_spelled xs) ++ ns) ≡ Statement s ∷ parts (run_spelled xs ++ ns) =
    ap parts (append_assoc (stmt_spelled s) (run_spelled xs) ns) ∙ one (run_spelled xs ++ ns) in
    record {
      makes = ap (λ (ps : List Part). block (suc (length xs)) ps) front ∙ ap (λ (p : Part). with_statement (Statement s) p) run.makes;
      behind = ap (λ (ps : List Part). drop (suc (length xs)) ps) front ∙ run.behind;
    }

body_by : (xs : List Stmt) (ns : List Node) → IsRun xs ns → parts (body_spelled xs ++ ns) ≡ Block xs ∷ parts ns
body_by xs ns run =
    ap (λ (p : Part). sized (length (run_spelled xs)) p ∷ drop (length xs) (parts (run_spelled xs ++ ns))) run.makes
    ∙ ap (λ (p : Part). p ∷ drop (length xs) (parts (run_spelled xs ++ ns))) (sized_right xs)
    ∙ ap (λ (ps : List Part). Block xs ∷ ps) run.behind

runs_spell : {Z : Type 0} (p : Z → Stmt) → ((z : Z) → StmtSpells (p z)) → (zs : List Z) (ns : List Node) → IsRun (map p zs) ns
runs_spell p each [] ns = record { makes = refl; behind = refl }
runs_spell p each (z ∷ zs) ns = run_more (p z) (map p zs) (each z) ns (runs_spell p each zs ns)

stmt_layer : {Z : Type 0} (p : Z → Stmt) → ((z : Z) → StmtSpells (p z)) → (y : Stmt-F Z) → StmtSpells (roll-Stmt (map-Stmt Z Stmt p y))
stmt_layer p each (Stmt-F.Set slot attr value) = subst StmtSpells (sym (stmt.rolls-Set slot attr value)) (set_spells slot attr value)
stmt_layer p each (Stmt-F.If c xs ys) =
    subst StmtSpells (sym (stmt.rolls-If c (map p xs) (map p ys)))
    (if_spells c (map p xs) (map p ys) (λ ns. body_by (map p xs) ns (runs_spell p each xs ns)) (λ ns. body_by (map p ys) ns (runs_spell p each ys ns)))

pub stmt_spells : (s : Stmt) (ns : List Node) → parts (stmt_spelled s ++ ns) ≡ Statement s ∷ parts ns
stmt_spells = ind-Stmt StmtSpells (λ x y is. subst (λ (z : Stmt-F Stmt). StmtSpells (roll-Stmt z)) is (stmt_layer (λ e. e.0) (λ e. e.1) y))

run_spells : (xs : List Stmt) (ns : List Node) → IsRun xs ns
run_spells [] ns = record { makes = refl; behind = refl }
run_spells (s ∷ xs) ns = run_more s xs (stmt_spells s) ns (run_spells xs ns)

pub block_spells : (xs : List Stmt) (ns : List Node) → block (length xs) (parts (run_spelled xs ++ ns)) ≡ Block xs
block_spells xs ns = (run_spells xs ns).makes

pub body_spells : (xs : List Stmt) (ns : List Node) → parts (body_spelled xs ++ ns) ≡ Block xs ∷ parts ns
body_spells xs ns = body_by xs ns (run_spells xs ns)

alone : (xs : List Stmt) → parts (body_spelled xs) ≡ Block xs ∷ []
alone xs = ap parts (sym (append-nil (body_spelled xs))) ∙ body_spells xs []

pub body_view : (ns : List Node) (xs : List Stmt) → ns ≡ body_spelled xs → block_in (first (parts ns)) ≡ xs
body_view ns xs e = ap (λ (ms : List Node). block_in (first (parts ms))) e ∙ ap (λ (ps : List Part). block_in (first ps)) (alone xs)

pub body_is : (ns : List Node) (xs : List Stmt) → ns ≡ body_spelled xs → IsBody ns
body_is ns xs e = ap parts e ∙ alone xs ∙ ap (λ (ys : List Stmt). Block ys ∷ []) (sym (body_view ns xs e))
