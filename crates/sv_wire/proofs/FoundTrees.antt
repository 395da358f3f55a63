-- What is read is spelled so, each byte of it: the body of an action.
use Rattle.std.proofs.Common.{◌≡◌, ℕ, zero, suc, ◌+◌, ◌<◌, ◌≤◌, max, Bool, true, false, cond, eqb, ltb, List, [], ◌∷◌, ◌++◌, length, map, Option, Some, None, Ok, Err, refl, sym, ap, subst, ◌∙◌, arith}
use Rattle.std.specs.List.{flat_map, AllByRecursion}
use Rattle.std.specs.Int.{w64}
use Rattle.std.proofs.lemmas.Bool.{eqb-true, ltb-true}
use Rattle.std.proofs.lemmas.List.{length-map}
use Rattle.sv_world.specs.Trees.{expr_nodes, cond_nodes, stmt_nodes, body_nodes, expr_depth, cond_depth, stmt_depth, body_depth}
use Rattle.sv_world.specs.declared.action.Expr.{Expr}
use Rattle.sv_world.specs.declared.action.Expr.TheVariants as expr
use Rattle.sv_world.specs.declared.action.Cond.{Cond}
use Rattle.sv_world.specs.declared.action.Cond.TheVariants as test
use Rattle.sv_world.specs.declared.action.Stmt.{Stmt}
use Rattle.sv_world.specs.declared.action.Stmt.TheVariants as stmt
use Rattle.sv_wire.specs.declared.fault.Stop.{Stop}
use Rattle.sv_world.specs.declared.node.Operator.{Operator}
use Rattle.sv_world.specs.declared.node.Operator.TheVariants.{Add, Sub, Mul, Div, Rem, Min, Max}
use Rattle.sv_world.specs.declared.node.Comparison.{Comparison}
use Rattle.sv_world.specs.declared.node.Comparison.TheVariants.{Eq, Lt, Le}
use Rattle.sv_world.specs.declared.node.Connective.{Connective}
use Rattle.sv_world.specs.declared.node.Connective.TheVariants.{And, Or}
use Rattle.sv_wire.specs.declared.nodes.ExprKind.{ExprKind}
use Rattle.sv_wire.specs.declared.nodes.ExprKind.TheVariants as expr_kind
use Rattle.sv_wire.specs.declared.nodes.CondKind.{CondKind}
use Rattle.sv_wire.specs.declared.nodes.CondKind.TheVariants as cond_kind
use Rattle.sv_wire.specs.declared.nodes.StmtKind.{StmtKind}
use Rattle.sv_wire.specs.declared.nodes.StmtKind.TheVariants as stmt_kind
use Rattle.sv_world.specs.Parts.{binary_by as expr_by, compare_by, join_by}
use Rattle.sv_world.proofs.TreeMeasures.{pair_nodes, pair_depth, lit_nodes, lit_depth, attr_nodes, attr_depth, test_nodes, test_depth, joint_nodes, joint_depth, not_nodes, not_depth, set_nodes, set_depth, if_nodes, if_depth}
use Rattle.sv_wire.specs.Steps.{◌>>=◌, in_turn}
use Rattle.sv_wire.specs.Fields.{byte_from, int_from}
use Rattle.sv_wire.specs.Nodes.{among, kind_in, room_at, node_from, expr_kind_of, cond_kind_of, stmt_kind_of}
use Rattle.sv_wire.specs.Trees.{Reader, no_level, lit_from, attr_from, pair_from, expr_of, expr_level, expr_from, compare_from, join_from, not_from, cond_of, cond_level, cond_from, set_from, list_by, other_from, lists_from, if_from, stmt_of, stmt_level, stmt_from}
use Rattle.sv_wire.specs.Spelling.{operator_byte, comparison_byte, connective_byte, int_bytes, expr_bytes, cond_bytes, stmt_bytes, body_bytes}
use Rattle.sv_wire.proofs.Near.{ok_is}
use Rattle.sv_wire.proofs.NearFields.{bind_ok}
use Rattle.sv_wire.proofs.Append.{nodes_more}
use Rattle.sv_wire.proofs.Found.{IsBytes, Takes, after, takes_nothing, byte_takes, int64_takes}
use Rattle.sv_wire.proofs.Layers.{bytes_by, lit_bytes, attr_bytes, compare_bytes, join_bytes, not_bytes, set_bytes, if_bytes}

-- ---- the table of kinds

abbrev one : {K : Type 0} → K → Option K
one k = Some k

some_is : {K : Type 0} (j k : K) → one j ≡ one k → j ≡ k
some_is j k e = cc

among_else : {K : Type 0} (byte : K → ℕ) (t : Bool) (a b : ℕ) (j k : K) (other : Option K) → t ≡ eqb b a → a ≡ byte j → (other ≡ Some k → b ≡ byte k) → cond t (Some j) other ≡ Some k → b ≡ byte k
among_else byte true a b j k other test is later e = eqb-true b a (sym test) ∙ is ∙ ap byte (some_is j k e)
among_else byte false a b j k other test is later e = later e

-- Where each entry of a table is the byte of its kind, so is what is found.
pub among_found : {K : Type 0} (byte : K → ℕ) (es : List (ℕ × K)) → AllByRecursion (λ e. e.0 ≡ byte e.1) es → (b : ℕ) (k : K) → among es b ≡ Some k → b ≡ byte k
among_found byte [] h b k e = absurd cc
among_found byte (x ∷ es) h b k e = among_else byte (eqb b x.0) x.0 b x.1 k (among es b) refl h.0 (among_found byte es h.1 b k) e

abbrev expr_byte : ExprKind → ℕ
expr_byte expr_kind.Lit = 0x20
expr_byte expr_kind.Attr = 0x21
expr_byte (expr_kind.Both operator) = operator_byte operator

abbrev cond_byte : CondKind → ℕ
cond_byte (cond_kind.Compare comparison) = comparison_byte comparison
cond_byte (cond_kind.Both connective) = connective_byte connective
cond_byte cond_kind.Not = 0x35

abbrev stmt_byte : StmtKind → ℕ
stmt_byte stmt_kind.Set = 0x10
stmt_byte stmt_kind.If = 0x11

abbrev expr_table : List (ℕ × ExprKind)
expr_table = ((0x20, expr_kind.Lit)
    ∷ (0x21, expr_kind.Attr)
    ∷ (0x22, expr_kind.Both Add)
    ∷ (0x23, expr_kind.Both Sub)
    ∷ (0x24, expr_kind.Both Mul)
    ∷ (0x25, expr_kind.Both Div)
    ∷ (0x26, expr_kind.Both Rem)
    ∷ (0x27, expr_kind.Both Min)
    ∷ (0x28, expr_kind.Both Max)
    ∷ [])

expr_byte_is : (b : ℕ) (k : ExprKind) → expr_kind_of b ≡ Some k → b ≡ expr_byte k
unfolding expr_kind_of
expr_byte_is b k e = among_found expr_byte expr_table (refl, (refl, (refl, (refl, (refl, (refl, (refl, (refl, (refl, tt))))))))) b k e

abbrev cond_table : List (ℕ × CondKind)
cond_table = ((0x30, cond_kind.Compare Eq)
    ∷ (0x31, cond_kind.Compare Lt)
    ∷ (0x32, cond_kind.Compare Le)
    ∷ (0x33, cond_kind.Both And)
    ∷ (0x34, cond_kind.Both Or)
    ∷ (0x35, cond_kind.Not)
    ∷ [])

cond_byte_is : (b : ℕ) (k : CondKind) → cond_kind_of b ≡ Some k → b ≡ cond_byte k
unfolding cond_kind_of
cond_byte_is b k e = among_found cond_byte cond_table (refl, (refl, (refl, (refl, (refl, (refl, tt)))))) b k e

abbrev stmt_table : List (ℕ × StmtKind)
stmt_table = ((0x10, stmt_kind.Set) ∷ (0x11, stmt_kind.If) ∷ [])

stmt_byte_is : (b : ℕ) (k : StmtKind) → stmt_kind_of b ≡ Some k → b ≡ stmt_byte k
unfolding stmt_kind_of
stmt_byte_is b k e = among_found stmt_byte stmt_table (refl, (refl, tt)) b k e

-- ---- a node's first byte

pub kind_ok : {K : Type 0} (o : Option K) (bytes : List ℕ) (k : K) → kind_in o bytes ≡ Ok k → o ≡ Some k
kind_ok None bytes k e = absurd cc
kind_ok (Some j) bytes k e = ap Some (ok_is j k e)

room_deep : (p q : Bool) (s t : Stop) (u : Unit {0}) → cond p (cond q (Ok tt) (Err s)) (Err t) ≡ Ok u → q ≡ true
room_deep true true s t u e = refl
room_deep true false s t u e = absurd cc
room_deep false q s t u e = absurd cc

room_ok : (depth nodes : ℕ) (bytes : List ℕ) (u : Unit {0}) → room_at depth nodes bytes ≡ Ok u → 0 < depth
unfolding room_at
room_ok depth nodes bytes u e = ltb-true 0 depth (room_deep (ltb nodes 64) (ltb 0 depth) _ _ u e)

node_takes : {K : Type 0} (kind_of : ℕ → Option K) (byte : K → ℕ) → ((b : ℕ) (k : K) → kind_of b ≡ Some k → b ≡ byte k)
    → (depth nodes : ℕ) (bytes : List ℕ) (x : K × List ℕ) → IsBytes bytes → node_from kind_of depth nodes bytes ≡ Ok x → Takes bytes (byte x.0 ∷ []) x.1 × (0 < depth)
unfolding node_from
node_takes {K = K} kind_of byte is depth nodes bytes x fits e =
    let b = bind_ok (byte_from bytes) (λ b. kind_in (kind_of b.0) bytes >>= λ kind. room_at depth nodes bytes >>= λ _. Ok (kind, b.1)) x e in
    let k = bind_ok (kind_in (kind_of b.0.0) bytes) (λ kind. room_at depth nodes bytes >>= λ _. Ok (kind, b.0.1)) x b.2 in
    let r = bind_ok (room_at depth nodes bytes) (λ _. Ok (k.0, b.0.1)) x k.2 in
    let t = byte_takes bytes b.0 fits b.1 in
    let named = is b.0.0 k.0 (kind_ok (kind_of b.0.0) bytes k.0 k.1) in
    subst (λ (y : K × List ℕ). Takes bytes (byte y.0 ∷ []) y.1 × (0 < depth)) (ok_is (k.0, b.0.1) x r.2)
    (subst (λ (n : ℕ). Takes bytes (n ∷ []) b.0.1) named t.0, room_ok depth nodes bytes r.0 r.1)

-- ---- what a reader of trees finds

-- The bytes, the nodes and the depth of what was read.
pub record Finds (X : Type 0) (text : X → List ℕ) (count level : X → ℕ) (depth nodes : ℕ) (bytes : List ℕ) (x : X × ℕ × List ℕ) : Type 0 where
  pub takes : Takes bytes (text x.0) x.2
  pub nodes_are : x.1 ≡ nodes + count x.0
  pub is_within : level x.0 ≤ depth

abbrev pub ExprFound : ℕ → Reader Expr → Type 0
ExprFound depth reader = (nodes : ℕ) (bytes : List ℕ) (x : Expr × ℕ × List ℕ) → IsBytes bytes → reader nodes bytes ≡ Ok x → Finds Expr expr_bytes expr_nodes expr_depth depth nodes bytes x

abbrev pub CondFound : ℕ → Reader Cond → Type 0
CondFound depth reader = (nodes : ℕ) (bytes : List ℕ) (x : Cond × ℕ × List ℕ) → IsBytes bytes → reader nodes bytes ≡ Ok x → Finds Cond cond_bytes cond_nodes cond_depth depth nodes bytes x

abbrev pub StmtFound : ℕ → Reader Stmt → Type 0
StmtFound depth reader = (nodes : ℕ) (bytes : List ℕ) (x : Stmt × ℕ × List ℕ) → IsBytes bytes → reader nodes bytes ≡ Ok x → Finds Stmt stmt_bytes stmt_nodes stmt_depth depth nodes bytes x

-- What a node's kind and its rest make: `byte` is the node's, and nodes counts it.
record Makes (X : Type 0) (text : X → List ℕ) (count level : X → ℕ) (byte depth nodes : ℕ) (bytes : List ℕ) (x : X × ℕ × List ℕ) : Type 0 where
  rest_text : List ℕ
  takes : Takes bytes rest_text x.2
  text_is : text x.0 ≡ byte ∷ rest_text
  nodes_are : x.1 + 1 ≡ nodes + count x.0
  is_within : level x.0 ≤ depth + 1

-- a node is its byte and its rest
make : {X : Type 0} (text : X → List ℕ) (count level : X → ℕ) (byte d depth nodes : ℕ) (bytes rest : List ℕ) (x : X × ℕ × List ℕ) → Takes bytes (byte ∷ []) rest → d + 1 ≤ depth
    → Makes X text count level byte d (nodes + 1) rest x → Finds X text count level depth nodes bytes x
make text count level byte d depth nodes bytes rest x node le m =
    let whole : Takes bytes (byte ∷ m.rest_text) x.2 = after node m.takes in
    record {
      takes = subst (λ (t : List ℕ). Takes bytes t x.2) (sym m.text_is) whole;
      nodes_are = omega (arith, m.nodes_are);
      is_within = omega (arith, m.is_within);
    }

-- ---- expressions

abbrev MakesExpr : ℕ → ℕ → ℕ → List ℕ → Expr × ℕ × List ℕ → Type 0
MakesExpr byte depth nodes bytes x = Makes Expr expr_bytes expr_nodes expr_depth byte depth nodes bytes x

lit_found : (depth nodes : ℕ) (bytes : List ℕ) (x : Expr × ℕ × List ℕ) → IsBytes bytes → lit_from nodes bytes ≡ Ok x → MakesExpr 0x20 depth nodes bytes x
unfolding lit_from
lit_found depth nodes bytes x fits e =
    let n = bind_ok (int_from w64 bytes) (λ n. Ok (expr.Lit n.0, nodes, n.1)) x e in
    let count = lit_nodes n.0.0 in
    let level = lit_depth n.0.0 in
    subst (λ (y : Expr × ℕ × List ℕ). MakesExpr 0x20 depth nodes bytes y) (ok_is (expr.Lit n.0.0, nodes, n.0.1) x n.2)
    (record { rest_text = int_bytes w64 n.0.0; takes = int64_takes bytes n.0 fits n.1; text_is = lit_bytes n.0.0; nodes_are = omega arith; is_within = omega arith })

attr_found : (depth nodes : ℕ) (bytes : List ℕ) (x : Expr × ℕ × List ℕ) → IsBytes bytes → attr_from nodes bytes ≡ Ok x → MakesExpr 0x21 depth nodes bytes x
unfolding attr_from
attr_found depth nodes bytes x fits e =
    let s = bind_ok (byte_from bytes) (λ slot. byte_from slot.1 >>= λ attr. Ok (expr.Attr slot.0 attr.0, nodes, attr.1)) x e in
    let a = bind_ok (byte_from s.0.1) (λ attr. Ok (expr.Attr s.0.0 attr.0, nodes, attr.1)) x s.2 in
    let p = byte_takes bytes s.0 fits s.1 in
    let q = byte_takes s.0.1 a.0 p.0.bytes_left a.1 in
    let count = attr_nodes s.0.0 a.0.0 in
    let level = attr_depth s.0.0 a.0.0 in
    subst (λ (y : Expr × ℕ × List ℕ). MakesExpr 0x21 depth nodes bytes y) (ok_is (expr.Attr s.0.0 a.0.0, nodes, a.0.1) x a.2)
    (record { rest_text = s.0.0 ∷ a.0.0 ∷ []; takes = after p.0 q.0; text_is = attr_bytes s.0.0 a.0.0; nodes_are = omega arith; is_within = omega arith })

pair_found : (reader : Reader Expr) (depth : ℕ) → ExprFound depth reader → (o : Operator) (nodes : ℕ) (bytes : List ℕ) (x : Expr × ℕ × List ℕ) → IsBytes bytes → pair_from reader o nodes bytes ≡ Ok x → MakesExpr (operator_byte o) depth nodes bytes x
unfolding pair_from
pair_found reader depth found o nodes bytes x fits e =
    let a = bind_ok (reader nodes bytes) (λ a. reader a.1 a.2 >>= λ b. Ok (expr_by o a.0 b.0, b.1, b.2)) x e in
    let b = bind_ok (reader a.0.1 a.0.2) (λ b. Ok (expr_by o a.0.0 b.0, b.1, b.2)) x a.2 in
    let p = found nodes bytes a.0 fits a.1 in
    let q = found a.0.1 a.0.2 b.0 p.takes.bytes_left b.1 in
    let count = pair_nodes o a.0.0 b.0.0 in
    let level = pair_depth o a.0.0 b.0.0 in
    subst (λ (y : Expr × ℕ × List ℕ). MakesExpr (operator_byte o) depth nodes bytes y) (ok_is (expr_by o a.0.0 b.0.0, b.0.1, b.0.2) x b.2)
    (record {
      rest_text = expr_bytes a.0.0 ++ expr_bytes b.0.0;
      takes = after p.takes q.takes;
      text_is = bytes_by o a.0.0 b.0.0;
      nodes_are = omega (arith, p.nodes_are, q.nodes_are);
      is_within = omega (arith, p.is_within, q.is_within);
    })

expr_of_found : (reader : Reader Expr) (depth : ℕ) → ExprFound depth reader → (kind : ExprKind) (nodes : ℕ) (bytes : List ℕ) (x : Expr × ℕ × List ℕ) → IsBytes bytes → expr_of reader kind nodes bytes ≡ Ok x → MakesExpr (expr_byte kind) depth nodes bytes x
expr_of_found reader depth found expr_kind.Lit nodes bytes x fits e = lit_found depth nodes bytes x fits e
expr_of_found reader depth found expr_kind.Attr nodes bytes x fits e = attr_found depth nodes bytes x fits e
expr_of_found reader depth found (expr_kind.Both o) nodes bytes x fits e = pair_found reader depth found o nodes bytes x fits e

expr_level_found : (reader : Reader Expr) (d depth : ℕ) → (0 < depth → d + 1 ≤ depth) → ExprFound d reader → ExprFound depth (expr_level reader depth)
unfolding expr_level
expr_level_found reader d depth le found nodes bytes x fits e =
    let k = bind_ok (node_from expr_kind_of depth nodes bytes) (λ kind. expr_of reader kind.0 (nodes + 1) kind.1) x e in
    let t = node_takes expr_kind_of expr_byte expr_byte_is depth nodes bytes k.0 fits k.1 in
    make expr_bytes expr_nodes expr_depth (expr_byte k.0.0) d depth nodes bytes k.0.1 x t.0 (le t.1) (expr_of_found reader d found k.0.0 (nodes + 1) k.0.1 x t.0.bytes_left k.2)

pub expr_found : (depth : ℕ) → ExprFound depth (expr_from depth)
unfolding expr_from
expr_found zero nodes bytes x fits e = expr_level_found no_level 0 0 (λ h. absurd (omega arith)) (λ n b y h i. absurd cc) nodes bytes x fits e
expr_found (suc depth) nodes bytes x fits e = expr_level_found (λ n rest. expr_from depth n rest) depth (suc depth) (λ h. omega arith) (expr_found depth) nodes bytes x fits e

-- ---- conditions

abbrev MakesCond : ℕ → ℕ → ℕ → List ℕ → Cond × ℕ × List ℕ → Type 0
MakesCond byte depth nodes bytes x = Makes Cond cond_bytes cond_nodes cond_depth byte depth nodes bytes x

compare_found : (reader : Reader Expr) (depth : ℕ) → ExprFound depth reader → (o : Comparison) (nodes : ℕ) (bytes : List ℕ) (x : Cond × ℕ × List ℕ) → IsBytes bytes → compare_from reader o nodes bytes ≡ Ok x → MakesCond (comparison_byte o) depth nodes bytes x
unfolding compare_from
compare_found reader depth found o nodes bytes x fits e =
    let a = bind_ok (reader nodes bytes) (λ a. reader a.1 a.2 >>= λ b. Ok (compare_by o a.0 b.0, b.1, b.2)) x e in
    let b = bind_ok (reader a.0.1 a.0.2) (λ b. Ok (compare_by o a.0.0 b.0, b.1, b.2)) x a.2 in
    let p = found nodes bytes a.0 fits a.1 in
    let q = found a.0.1 a.0.2 b.0 p.takes.bytes_left b.1 in
    let count = test_nodes o a.0.0 b.0.0 in
    let level = test_depth o a.0.0 b.0.0 in
    subst (λ (y : Cond × ℕ × List ℕ). MakesCond (comparison_byte o) depth nodes bytes y) (ok_is (compare_by o a.0.0 b.0.0, b.0.1, b.0.2) x b.2)
    (record {
      rest_text = expr_bytes a.0.0 ++ expr_bytes b.0.0;
      takes = after p.takes q.takes;
      text_is = compare_bytes o a.0.0 b.0.0;
      nodes_are = omega (arith, p.nodes_are, q.nodes_are);
      is_within = omega (arith, p.is_within, q.is_within);
    })

join_found : (reader : Reader Cond) (depth : ℕ) → CondFound depth reader → (o : Connective) (nodes : ℕ) (bytes : List ℕ) (x : Cond × ℕ × List ℕ) → IsBytes bytes → join_from reader o nodes bytes ≡ Ok x → MakesCond (connective_byte o) depth nodes bytes x
unfolding join_from
join_found reader depth found o nodes bytes x fits e =
    let a = bind_ok (reader nodes bytes) (λ a. reader a.1 a.2 >>= λ b. Ok (join_by o a.0 b.0, b.1, b.2)) x e in
    let b = bind_ok (reader a.0.1 a.0.2) (λ b. Ok (join_by o a.0.0 b.0, b.1, b.2)) x a.2 in
    let p = found nodes bytes a.0 fits a.1 in
    let q = found a.0.1 a.0.2 b.0 p.takes.bytes_left b.1 in
    let count = joint_nodes o a.0.0 b.0.0 in
    let level = joint_depth o a.0.0 b.0.0 in
    subst (λ (y : Cond × ℕ × List ℕ). MakesCond (connective_byte o) depth nodes bytes y) (ok_is (join_by o a.0.0 b.0.0, b.0.1, b.0.2) x b.2)
    (record {
      rest_text = cond_bytes a.0.0 ++ cond_bytes b.0.0;
      takes = after p.takes q.takes;
      text_is = join_bytes o a.0.0 b.0.0;
      nodes_are = omega (arith, p.nodes_are, q.nodes_are);
      is_within = omega (arith, p.is_within, q.is_within);
    })

not_found : (reader : Reader Cond) (depth : ℕ) → CondFound depth reader → (nodes : ℕ) (bytes : List ℕ) (x : Cond × ℕ × List ℕ) → IsBytes bytes → not_from reader nodes bytes ≡ Ok x → MakesCond 0x35 depth nodes bytes x
unfolding not_from
not_found reader depth found nodes bytes x fits e =
    let a = bind_ok (reader nodes bytes) (λ a. Ok (test.Not a.0, a.1, a.2)) x e in
    let p = found nodes bytes a.0 fits a.1 in
    let count = not_nodes a.0.0 in
    let level = not_depth a.0.0 in
    subst (λ (y : Cond × ℕ × List ℕ). MakesCond 0x35 depth nodes bytes y) (ok_is (test.Not a.0.0, a.0.1, a.0.2) x a.2)
    (record {
      rest_text = cond_bytes a.0.0;
      takes = p.takes;
      text_is = not_bytes a.0.0;
      nodes_are = omega (arith, p.nodes_are);
      is_within = omega (arith, p.is_within);
    })

cond_of_found : (exprs : Reader Expr) (conds : Reader Cond) (depth : ℕ) → ExprFound depth exprs → CondFound depth conds → (kind : CondKind) (nodes : ℕ) (bytes : List ℕ) (x : Cond × ℕ × List ℕ) → IsBytes bytes → cond_of exprs conds kind nodes bytes ≡ Ok x → MakesCond (cond_byte kind) depth nodes bytes x
cond_of_found exprs conds depth h k (cond_kind.Compare o) nodes bytes x fits e = compare_found exprs depth h o nodes bytes x fits e
cond_of_found exprs conds depth h k (cond_kind.Both o) nodes bytes x fits e = join_found conds depth k o nodes bytes x fits e
cond_of_found exprs conds depth h k cond_kind.Not nodes bytes x fits e = not_found conds depth k nodes bytes x fits e

cond_level_found : (exprs : Reader Expr) (conds : Reader Cond) (d depth : ℕ) → (0 < depth → d + 1 ≤ depth) → ExprFound d exprs → CondFound d conds → CondFound depth (cond_level exprs conds depth)
unfolding cond_level
cond_level_found exprs conds d depth le h i nodes bytes x fits e =
    let k = bind_ok (node_from cond_kind_of depth nodes bytes) (λ kind. cond_of exprs conds kind.0 (nodes + 1) kind.1) x e in
    let t = node_takes cond_kind_of cond_byte cond_byte_is depth nodes bytes k.0 fits k.1 in
    make cond_bytes cond_nodes cond_depth (cond_byte k.0.0) d depth nodes bytes k.0.1 x t.0 (le t.1) (cond_of_found exprs conds d h i k.0.0 (nodes + 1) k.0.1 x t.0.bytes_left k.2)

pub cond_found : (depth : ℕ) → CondFound depth (cond_from depth)
unfolding cond_from
cond_found zero nodes bytes x fits e = cond_level_found no_level no_level 0 0 (λ h. absurd (omega arith)) (λ n b y h i. absurd cc) (λ n b y h i. absurd cc) nodes bytes x fits e
cond_found (suc depth) nodes bytes x fits e = cond_level_found (λ n rest. expr_from depth n rest) (λ n rest. cond_from depth n rest) depth (suc depth) (λ h. omega arith) (expr_found depth) (cond_found depth) nodes bytes x fits e

-- ---- statements

abbrev MakesStmt : ℕ → ℕ → ℕ → List ℕ → Stmt × ℕ × List ℕ → Type 0
MakesStmt byte depth nodes bytes x = Makes Stmt stmt_bytes stmt_nodes stmt_depth byte depth nodes bytes x

set_found : (reader : Reader Expr) (depth : ℕ) → ExprFound depth reader → (nodes : ℕ) (bytes : List ℕ) (x : Stmt × ℕ × List ℕ) → IsBytes bytes → set_from reader nodes bytes ≡ Ok x → MakesStmt 0x10 depth nodes bytes x
unfolding set_from
set_found reader depth found nodes bytes x fits e =
    let s = bind_ok (byte_from bytes) (λ slot. byte_from slot.1 >>= λ attr. reader nodes attr.1 >>= λ value. Ok (stmt.Set slot.0 attr.0 value.0, value.1, value.2)) x e in
    let a = bind_ok (byte_from s.0.1) (λ attr. reader nodes attr.1 >>= λ value. Ok (stmt.Set s.0.0 attr.0 value.0, value.1, value.2)) x s.2 in
    let v = bind_ok (reader nodes a.0.1) (λ value. Ok (stmt.Set s.0.0 a.0.0 value.0, value.1, value.2)) x a.2 in
    let p = byte_takes bytes s.0 fits s.1 in
    let q = byte_takes s.0.1 a.0 p.0.bytes_left a.1 in
    let r = found nodes a.0.1 v.0 q.0.bytes_left v.1 in
    let count = set_nodes s.0.0 a.0.0 v.0.0 in
    let level = set_depth s.0.0 a.0.0 v.0.0 in
    subst (λ (y : Stmt × ℕ × List ℕ). MakesStmt 0x10 depth nodes bytes y) (ok_is (stmt.Set s.0.0 a.0.0 v.0.0, v.0.1, v.0.2) x v.2)
    (record {
      rest_text = s.0.0 ∷ a.0.0 ∷ expr_bytes v.0.0;
      takes = after (after p.0 q.0) r.takes;
      text_is = set_bytes s.0.0 a.0.0 v.0.0;
      nodes_are = omega (arith, r.nodes_are);
      is_within = omega (arith, r.is_within);
    })

abbrev parts_of : List Stmt → List ℕ
parts_of xs = flat_map (λ (t : List ℕ). t) (map stmt_bytes xs)

turns_found : (reader : Reader Stmt) (depth : ℕ) → StmtFound depth reader → (n nodes : ℕ) (bytes : List ℕ) (x : List Stmt × ℕ × List ℕ) → IsBytes bytes → in_turn reader n nodes bytes ≡ Ok x → Finds (List Stmt) parts_of body_nodes body_depth depth nodes bytes x × (length x.0 ≡ n)
unfolding in_turn
turns_found reader depth found zero nodes bytes x fits e =
    subst (λ (y : List Stmt × ℕ × List ℕ). Finds (List Stmt) parts_of body_nodes body_depth depth nodes bytes y × (length y.0 ≡ 0)) (ok_is ([], nodes, bytes) x e)
    (let count : body_nodes [] ≡ 0 = refl in let level : body_depth [] ≡ 0 = refl in record { takes = takes_nothing bytes fits; nodes_are = omega arith; is_within = omega arith }, refl)
turns_found reader depth found (suc n) nodes bytes x fits e =
    let a = bind_ok (reader nodes bytes) (λ first. in_turn reader n first.1 first.2 >>= λ others. Ok (first.0 ∷ others.0, others.1, others.2)) x e in
    let b = bind_ok (in_turn reader n a.0.1 a.0.2) (λ others. Ok (a.0.0 ∷ others.0, others.1, others.2)) x a.2 in
    let p = found nodes bytes a.0 fits a.1 in
    let q = turns_found reader depth found n a.0.1 a.0.2 b.0 p.takes.bytes_left b.1 in
    let count = nodes_more a.0.0 b.0.0 in
    let level : body_depth (a.0.0 ∷ b.0.0) ≡ max (stmt_depth a.0.0) (body_depth b.0.0) = refl in
    subst (λ (y : List Stmt × ℕ × List ℕ). Finds (List Stmt) parts_of body_nodes body_depth depth nodes bytes y × (length y.0 ≡ suc n)) (ok_is (a.0.0 ∷ b.0.0, b.0.1, b.0.2) x b.2)
    (record { takes = after p.takes q.0.takes; nodes_are = omega (arith, p.nodes_are, q.0.nodes_are); is_within = omega (arith, p.is_within, q.0.is_within) }, ap suc q.1)

pub list_found : (reader : Reader Stmt) (depth : ℕ) → StmtFound depth reader → (nodes : ℕ) (bytes : List ℕ) (x : List Stmt × ℕ × List ℕ) → IsBytes bytes → list_by reader nodes bytes ≡ Ok x → Finds (List Stmt) body_bytes body_nodes body_depth depth nodes bytes x
unfolding list_by
list_found reader depth found nodes bytes x fits e =
    let n = bind_ok (byte_from bytes) (λ n. in_turn reader n.0 nodes n.1) x e in
    let c = byte_takes bytes n.0 fits n.1 in
    let t = turns_found reader depth found n.0.0 nodes n.0.1 x c.0.bytes_left n.2 in
    let len : n.0.0 ≡ length (map stmt_bytes x.0) = sym t.1 ∙ sym (length-map x.0 stmt_bytes) in
    record {
      takes = subst (λ (k : ℕ). Takes bytes (k ∷ parts_of x.0) x.2) len (after c.0 t.0.takes);
      nodes_are = t.0.nodes_are;
      is_within = t.0.is_within;
    }

if_found : (conds : Reader Cond) (stmts : Reader Stmt) (depth : ℕ) → CondFound depth conds → StmtFound depth stmts → (nodes : ℕ) (bytes : List ℕ) (x : Stmt × ℕ × List ℕ) → IsBytes bytes → if_from conds stmts nodes bytes ≡ Ok x → MakesStmt 0x11 depth nodes bytes x
unfolding if_from lists_from other_from
if_found conds stmts depth h k nodes bytes x fits e =
    let c = bind_ok (conds nodes bytes) (λ c. list_by stmts c.1 c.2 >>= λ body. list_by stmts body.1 body.2 >>= λ other. Ok (stmt.If c.0 body.0 other.0, other.1, other.2)) x e in
    let b = bind_ok (list_by stmts c.0.1 c.0.2) (λ body. list_by stmts body.1 body.2 >>= λ other. Ok (stmt.If c.0.0 body.0 other.0, other.1, other.2)) x c.2 in
    let o = bind_ok (list_by stmts b.0.1 b.0.2) (λ other. Ok (stmt.If c.0.0 b.0.0 other.0, other.1, other.2)) x b.2 in
    let p = h nodes bytes c.0 fits c.1 in
    let q = list_found stmts depth k c.0.1 c.0.2 b.0 p.takes.bytes_left b.1 in
    let r = list_found stmts depth k b.0.1 b.0.2 o.0 q.takes.bytes_left o.1 in
    let count = if_nodes c.0.0 b.0.0 o.0.0 in
    let level = if_depth c.0.0 b.0.0 o.0.0 in
    subst (λ (y : Stmt × ℕ × List ℕ). MakesStmt 0x11 depth nodes bytes y) (ok_is (stmt.If c.0.0 b.0.0 o.0.0, o.0.1, o.0.2) x o.2)
    (record {
      rest_text = cond_bytes c.0.0 ++ body_bytes b.0.0 ++ body_bytes o.0.0;
      takes = after (after p.takes q.takes) r.takes;
      text_is = if_bytes c.0.0 b.0.0 o.0.0;
      nodes_are = omega (arith, p.nodes_are, q.nodes_are, r.nodes_are);
      is_within = omega (arith, p.is_within, q.is_within, r.is_within);
    })

stmt_of_found : (exprs : Reader Expr) (conds : Reader Cond) (stmts : Reader Stmt) (depth : ℕ) → ExprFound depth exprs → CondFound depth conds → StmtFound depth stmts → (kind : StmtKind) (nodes : ℕ) (bytes : List ℕ) (x : Stmt × ℕ × List ℕ) → IsBytes bytes → stmt_of exprs conds stmts kind nodes bytes ≡ Ok x → MakesStmt (stmt_byte kind) depth nodes bytes x
stmt_of_found exprs conds stmts depth h i k stmt_kind.Set nodes bytes x fits e = set_found exprs depth h nodes bytes x fits e
stmt_of_found exprs conds stmts depth h i k stmt_kind.If nodes bytes x fits e = if_found conds stmts depth i k nodes bytes x fits e

stmt_level_found : (exprs : Reader Expr) (conds : Reader Cond) (stmts : Reader Stmt) (d depth : ℕ) → (0 < depth → d + 1 ≤ depth) → ExprFound d exprs → CondFound d conds → StmtFound d stmts → StmtFound depth (stmt_level exprs conds stmts depth)
unfolding stmt_level
stmt_level_found exprs conds stmts d depth le h i j nodes bytes x fits e =
    let k = bind_ok (node_from stmt_kind_of depth nodes bytes) (λ kind. stmt_of exprs conds stmts kind.0 (nodes + 1) kind.1) x e in
    let t = node_takes stmt_kind_of stmt_byte stmt_byte_is depth nodes bytes k.0 fits k.1 in
    make stmt_bytes stmt_nodes stmt_depth (stmt_byte k.0.0) d depth nodes bytes k.0.1 x t.0 (le t.1) (stmt_of_found exprs conds stmts d h i j k.0.0 (nodes + 1) k.0.1 x t.0.bytes_left k.2)

pub stmt_found : (depth : ℕ) → StmtFound depth (stmt_from depth)
unfolding stmt_from
stmt_found zero nodes bytes x fits e =
    stmt_level_found no_level no_level no_level 0 0 (λ h. absurd (omega arith)) (λ n b y h i. absurd cc) (λ n b y h i. absurd cc) (λ n b y h i. absurd cc) nodes bytes x fits e
stmt_found (suc depth) nodes bytes x fits e =
    stmt_level_found (λ n rest. expr_from depth n rest) (λ n rest. cond_from depth n rest) (λ n rest. stmt_from depth n rest) depth (suc depth) (λ h. omega arith) (expr_found depth) (cond_found depth) (stmt_found depth) nodes bytes x fits e
