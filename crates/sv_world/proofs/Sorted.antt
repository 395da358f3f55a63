-- What is known of nodes that begin with a part of some kind.
use Rattle.std.proofs.Common.{◌≡◌, ℕ, zero, suc, ◌≤◌, Bool, true, false, List, [], ◌∷◌, length, drop, nat_eq, refl, sym, ap, ◌∙◌, subst, arith}
use Rattle.std.proofs.Math.Seq.{drop-nil}
use Rattle.sv_world.specs.declared.action.Stmt.{Stmt}
use Rattle.sv_world.specs.declared.node.Node.{Node}
use Rattle.sv_world.specs.declared.node.Operator.{Operator}
use Rattle.sv_world.specs.declared.node.Comparison.{Comparison}
use Rattle.sv_world.specs.declared.node.Connective.{Connective}
use Rattle.sv_world.specs.Parts.{Part, Expression, Condition, Statement, Block, first, binary, comparison, connective, negated, assignment, choice, with_statement, block, kept, sized, parts, is_expr, is_cond, is_stmt, is_block}
use Rattle.sv_world.specs.Spelled.{run_spelled}

pub expr_there : (ns : List Node) → is_expr (first (parts ns)) ≡ true → 1 ≤ length ns
expr_there [] e = cc
expr_there (n ∷ ns) e = omega arith

pub cond_there : (ns : List Node) → is_cond (first (parts ns)) ≡ true → 1 ≤ length ns
cond_there [] e = cc
cond_there (n ∷ ns) e = omega arith

pub stmt_there : (ns : List Node) → is_stmt (first (parts ns)) ≡ true → 1 ≤ length ns
stmt_there [] e = cc
stmt_there (n ∷ ns) e = omega arith

pub block_there : (ns : List Node) → is_block (first (parts ns)) ≡ true → 1 ≤ length ns
block_there [] e = cc
block_there (n ∷ ns) e = omega arith

-- A block keeps its statements under its size.
kept_block : (b : Bool) (xs : List Stmt) → is_block (kept b xs) ≡ true → kept b xs ≡ Block xs
kept_block true xs e = refl
kept_block false xs e = cc

pub sized_block : (size : ℕ) (p : Part) → is_block (sized size p) ≡ true → sized size p ≡ p
sized_block size (Block xs) e = kept_block (nat_eq size (length (run_spelled xs))) xs e
sized_block size p e = cc

-- What a node makes has the node's kind, or none.
pub kept_no_expr : (b : Bool) (xs : List Stmt) → is_expr (kept b xs) ≡ false
kept_no_expr true xs = refl
kept_no_expr false xs = refl

pub kept_no_cond : (b : Bool) (xs : List Stmt) → is_cond (kept b xs) ≡ false
kept_no_cond true xs = refl
kept_no_cond false xs = refl

pub kept_no_stmt : (b : Bool) (xs : List Stmt) → is_stmt (kept b xs) ≡ false
kept_no_stmt true xs = refl
kept_no_stmt false xs = refl

pub comparison_no_expr : (o : Comparison) (p q : Part) → is_expr (comparison o p q) ≡ false
comparison_no_expr o (Expression a) (Expression b) = refl
comparison_no_expr o p q = refl

pub connective_no_expr : (o : Connective) (p q : Part) → is_expr (connective o p q) ≡ false
connective_no_expr o (Condition a) (Condition b) = refl
connective_no_expr o p q = refl

pub negated_no_expr : (p : Part) → is_expr (negated p) ≡ false
negated_no_expr (Condition a) = refl
negated_no_expr p = refl

pub assignment_no_expr : (slot attr : ℕ) (p : Part) → is_expr (assignment slot attr p) ≡ false
assignment_no_expr slot attr (Expression a) = refl
assignment_no_expr slot attr p = refl

pub choice_no_expr : (p q r : Part) → is_expr (choice p q r) ≡ false
choice_no_expr (Condition c) (Block xs) (Block ys) = refl
choice_no_expr p q r = refl

pub sized_no_expr : (size : ℕ) (p : Part) → is_expr (sized size p) ≡ false
sized_no_expr size (Block xs) = kept_no_expr (nat_eq size (length (run_spelled xs))) xs
sized_no_expr size p = refl

pub binary_no_cond : (o : Operator) (p q : Part) → is_cond (binary o p q) ≡ false
binary_no_cond o (Expression a) (Expression b) = refl
binary_no_cond o p q = refl

pub assignment_no_cond : (slot attr : ℕ) (p : Part) → is_cond (assignment slot attr p) ≡ false
assignment_no_cond slot attr (Expression a) = refl
assignment_no_cond slot attr p = refl

pub choice_no_cond : (p q r : Part) → is_cond (choice p q r) ≡ false
choice_no_cond (Condition c) (Block xs) (Block ys) = refl
choice_no_cond p q r = refl

pub sized_no_cond : (size : ℕ) (p : Part) → is_cond (sized size p) ≡ false
sized_no_cond size (Block xs) = kept_no_cond (nat_eq size (length (run_spelled xs))) xs
sized_no_cond size p = refl

pub binary_no_stmt : (o : Operator) (p q : Part) → is_stmt (binary o p q) ≡ false
binary_no_stmt o (Expression a) (Expression b) = refl
binary_no_stmt o p q = refl

pub comparison_no_stmt : (o : Comparison) (p q : Part) → is_stmt (comparison o p q) ≡ false
comparison_no_stmt o (Expression a) (Expression b) = refl
comparison_no_stmt o p q = refl

pub connective_no_stmt : (o : Connective) (p q : Part) → is_stmt (connective o p q) ≡ false
connective_no_stmt o (Condition a) (Condition b) = refl
connective_no_stmt o p q = refl

pub negated_no_stmt : (p : Part) → is_stmt (negated p) ≡ false
negated_no_stmt (Condition a) = refl
negated_no_stmt p = refl

pub sized_no_stmt : (size : ℕ) (p : Part) → is_stmt (sized size p) ≡ false
sized_no_stmt size (Block xs) = kept_no_stmt (nat_eq size (length (run_spelled xs))) xs
sized_no_stmt size p = refl

pub binary_no_block : (o : Operator) (p q : Part) → is_block (binary o p q) ≡ false
binary_no_block o (Expression a) (Expression b) = refl
binary_no_block o p q = refl

pub comparison_no_block : (o : Comparison) (p q : Part) → is_block (comparison o p q) ≡ false
comparison_no_block o (Expression a) (Expression b) = refl
comparison_no_block o p q = refl

pub connective_no_block : (o : Connective) (p q : Part) → is_block (connective o p q) ≡ false
connective_no_block o (Condition a) (Condition b) = refl
connective_no_block o p q = refl

pub negated_no_block : (p : Part) → is_block (negated p) ≡ false
negated_no_block (Condition a) = refl
negated_no_block p = refl

pub assignment_no_block : (slot attr : ℕ) (p : Part) → is_block (assignment slot attr p) ≡ false
assignment_no_block slot attr (Expression a) = refl
assignment_no_block slot attr p = refl

pub choice_no_block : (p q r : Part) → is_block (choice p q r) ≡ false
choice_no_block (Condition c) (Block xs) (Block ys) = refl
choice_no_block p q r = refl

pub ruleset no_expr = (comparison_no_expr, connective_no_expr, negated_no_expr, assignment_no_expr, choice_no_expr, sized_no_expr)

pub ruleset no_cond = (binary_no_cond, assignment_no_cond, choice_no_cond, sized_no_cond)

pub ruleset no_stmt = (binary_no_stmt, comparison_no_stmt, connective_no_stmt, negated_no_stmt, sized_no_stmt)

pub ruleset no_block = (binary_no_block, comparison_no_block, connective_no_block, negated_no_block, assignment_no_block, choice_no_block)

-- ---- the kinds of parts, where that of the whole is known

pub binary_exprs : (o : Operator) (p q : Part) → is_expr (binary o p q) ≡ true → (is_expr p ≡ true) × (is_expr q ≡ true)
binary_exprs o (Expression a) (Expression b) e = (refl, refl)
binary_exprs o p q e = absurd (cc)

pub compare_exprs : (o : Comparison) (p q : Part) → is_cond (comparison o p q) ≡ true → (is_expr p ≡ true) × (is_expr q ≡ true)
compare_exprs o (Expression a) (Expression b) e = (refl, refl)
compare_exprs o p q e = absurd (cc)

pub join_conds : (o : Connective) (p q : Part) → is_cond (connective o p q) ≡ true → (is_cond p ≡ true) × (is_cond q ≡ true)
join_conds o (Condition a) (Condition b) e = (refl, refl)
join_conds o p q e = absurd (cc)

pub not_cond : (p : Part) → is_cond (negated p) ≡ true → is_cond p ≡ true
not_cond (Condition a) e = refl
not_cond p e = absurd (cc)

pub set_expr : (slot attr : ℕ) (p : Part) → is_stmt (assignment slot attr p) ≡ true → is_expr p ≡ true
set_expr slot attr (Expression a) e = refl
set_expr slot attr p e = absurd (cc)

pub if_parts : (p q r : Part) → is_stmt (choice p q r) ≡ true → (is_cond p ≡ true) × (is_block q ≡ true) × (is_block r ≡ true)
if_parts (Condition c) (Block xs) (Block ys) e = (refl, refl, refl)
if_parts p q r e = absurd (cc)

pub more_parts : (p q : Part) → is_block (with_statement p q) ≡ true → (is_stmt p ≡ true) × (is_block q ≡ true)
more_parts (Statement s) (Block xs) e = (refl, refl)
more_parts p q e = absurd (cc)

-- ---- one more statement of a block

pub next_kind : (n m : ℕ) (ps qs : List Part) → n ≡ suc m → qs ≡ drop 1 ps → is_block (block n ps) ≡ true → is_block (block m qs) ≡ true
next_kind n m [] qs e f k =
    let bad : is_block (block (suc m) []) ≡ true = subst (λ (i : ℕ). is_block (block i []) ≡ true) e k in absurd (cc)
next_kind n m (p ∷ ps) qs e f k =
    let whole : is_block (block (suc m) (p ∷ ps)) ≡ true = subst (λ (i : ℕ). is_block (block i (p ∷ ps)) ≡ true) e k in
    ap (λ (rs : List Part). is_block (block m rs)) f ∙ (more_parts p (block m ps) whole).1

pub next_behind : (n m : ℕ) (ps qs : List Part) → n ≡ suc m → qs ≡ drop 1 ps → drop m qs ≡ drop n ps
next_behind n m [] qs e f = ap (drop m) f ∙ drop-nil m ∙ sym (drop-nil n)
next_behind n m (p ∷ ps) qs e f = ap (drop m) f ∙ ap (λ (i : ℕ). drop i (p ∷ ps)) (sym e)

pub first_kind : (n : ℕ) (ps : List Part) → 1 ≤ n → is_block (block n ps) ≡ true → is_stmt (first ps) ≡ true
first_kind zero ps l k = absurd (omega arith)
first_kind (suc n) [] l k = absurd (cc)
first_kind (suc n) (p ∷ ps) l k = (more_parts p (block n ps) k).0

pub ruleset part_kinds = (binary_exprs, compare_exprs, join_conds, not_cond, set_expr, if_parts)
