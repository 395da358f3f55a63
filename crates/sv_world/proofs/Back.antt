-- The way back: nodes that spell good parts are the nodes of these parts, one after the other.
use Rattle.std.proofs.Common.{◌≡◌, ℕ, zero, suc, ◌+◌, ◌-◌, ◌≤◌, pos, Bool, true, false, List, [], ◌∷◌, ◌++◌, length, take, drop, get_or, nat_eq, refl, sym, ap, ◌∙◌, subst, append_assoc, arith, length-append, length-drop, eqb-true, eq-eqb}
use Rattle.std.proofs.Math.Seq.{drop-append_seam, take-length}
use Rattle.std.proofs.lemmas.List.{drop-drop, drop-take, append-nil}
use Rattle.sv_world.specs.declared.action.Stmt.{Stmt}
use Rattle.sv_world.specs.declared.action.Cond.TheVariants as test
use Rattle.sv_world.specs.declared.action.Stmt.TheVariants as stmt
use Rattle.sv_world.specs.declared.node.Node.{Node}
use Rattle.sv_world.specs.declared.node.Node.TheVariants as node
use Rattle.sv_world.specs.declared.node.Operator.{Operator}
use Rattle.sv_world.specs.declared.node.Comparison.{Comparison}
use Rattle.sv_world.specs.declared.node.Connective.{Connective}
use Rattle.sv_world.specs.Parts.{binary_by, compare_by, join_by, Part, Expression, Condition, Statement, Block, Bad, first, second, third, binary, comparison, connective, negated, assignment, choice, with_statement, block, kept, sized, part_of, arity, parts, is_block}
use Rattle.sv_world.specs.Spelled.{expr_spelled, cond_spelled, stmt_spelled, run_spelled, body_spelled}
use Rattle.sv_world.proofs.Layers.{lit_spelled, attr_spelled, binary_spelled, compare_spelled, join_spelled, not_spelled, set_spelled, if_spelled}

-- The nodes of a part, and of parts one after the other.
abbrev pub part_spelled : Part → List Node
part_spelled (Expression e) = expr_spelled e
part_spelled (Condition c) = cond_spelled c
part_spelled (Statement s) = stmt_spelled s
part_spelled (Block xs) = body_spelled xs
part_spelled Bad = []

abbrev pub all_spelled : List Part → List Node
all_spelled [] = []
all_spelled (p ∷ ps) = part_spelled p ++ all_spelled ps

abbrev pub IsGoodPart : Part → Type 0
IsGoodPart (Expression e) = Unit {0}
IsGoodPart (Condition c) = Unit {0}
IsGoodPart (Statement s) = Unit {0}
IsGoodPart (Block xs) = Unit {0}
IsGoodPart Bad = ⊥

abbrev pub AreGood : List Part → Type 0
AreGood [] = Unit {0}
AreGood (p ∷ ps) = IsGoodPart p × AreGood ps

-- A node that is good over good parts is spelled before them.
record IsSpelled (n : Node) (ps : List Part) : Type 0 where
  good : AreGood ps
  nodes : part_spelled (part_of n ps) ++ all_spelled (drop (arity n) ps) ≡ n ∷ all_spelled ps

pair_nodes : (whole : List Node) (n : Node) (u v rest : List Node) → whole ≡ n ∷ (u ++ v) → whole ++ rest ≡ n ∷ (u ++ (v ++ rest))
pair_nodes whole n u v rest e = ap (λ (ns : List Node). ns ++ rest) e ∙ ap (λ (ns : List Node). n ∷ ns) (append_assoc u v rest)

one_nodes_none : (n : Node) (whole rest : List Node) → whole ≡ n ∷ [] → whole ++ rest ≡ n ∷ rest
one_nodes_none n whole rest e = ap (λ (ns : List Node). ns ++ rest) e

one_nodes : (whole : List Node) (n : Node) (u rest : List Node) → whole ≡ n ∷ u → whole ++ rest ≡ n ∷ (u ++ rest)
one_nodes whole n u rest e = ap (λ (ns : List Node). ns ++ rest) e

binary_back : (o : Operator) (ps : List Part) → IsGoodPart (binary o (first ps) (second ps)) → AreGood (drop 2 ps) → IsSpelled (node.Binary o) ps
binary_back o (Expression a ∷ Expression b ∷ ps) g r = record {
  good = (tt, (tt, r));
  nodes = pair_nodes (expr_spelled (binary_by o a b)) (node.Binary o) (expr_spelled a) (expr_spelled b) (all_spelled ps) (binary_spelled o a b);
}
binary_back o ps g r = absurd g

compare_back : (o : Comparison) (ps : List Part) → IsGoodPart (comparison o (first ps) (second ps)) → AreGood (drop 2 ps) → IsSpelled (node.Compare o) ps
compare_back o (Expression a ∷ Expression b ∷ ps) g r = record {
  good = (tt, (tt, r));
  nodes = pair_nodes (cond_spelled (compare_by o a b)) (node.Compare o) (expr_spelled a) (expr_spelled b) (all_spelled ps) (compare_spelled o a b);
}
compare_back o ps g r = absurd g

join_back : (o : Connective) (ps : List Part) → IsGoodPart (connective o (first ps) (second ps)) → AreGood (drop 2 ps) → IsSpelled (node.Join o) ps
join_back o (Condition a ∷ Condition b ∷ ps) g r = record {
  good = (tt, (tt, r));
  nodes = pair_nodes (cond_spelled (join_by o a b)) (node.Join o) (cond_spelled a) (cond_spelled b) (all_spelled ps) (join_spelled o a b);
}
join_back o ps g r = absurd g

not_back : (ps : List Part) → IsGoodPart (negated (first ps)) → AreGood (drop 1 ps) → IsSpelled node.Not ps
not_back (Condition a ∷ ps) g r = record {
  good = (tt, r);
  nodes = one_nodes (cond_spelled (test.Not a)) node.Not (cond_spelled a) (all_spelled ps) (not_spelled a);
}
not_back ps g r = absurd g

set_back : (slot attr : ℕ) (ps : List Part) → IsGoodPart (assignment slot attr (first ps)) → AreGood (drop 1 ps) → IsSpelled (node.Set slot attr) ps
set_back slot attr (Expression a ∷ ps) g r = record {
  good = (tt, r);
  nodes = one_nodes (stmt_spelled (stmt.Set slot attr a)) (node.Set slot attr) (expr_spelled a) (all_spelled ps) (set_spelled slot attr a);
}
set_back slot attr ps g r = absurd g

triple_nodes : (whole : List Node) (n : Node) (u v w rest : List Node) → whole ≡ n ∷ (u ++ v ++ w) → whole ++ rest ≡ n ∷ (u ++ (v ++ (w ++ rest)))
triple_nodes whole n u v w rest e =
    ap (λ (ns : List Node). ns ++ rest) e
    ∙ ap (λ (ns : List Node). n ∷ ns) (append_assoc (u ++ v) w rest ∙ append_assoc u v (w ++ rest))

if_back : (ps : List Part) → IsGoodPart (choice (first ps) (second ps) (third ps)) → AreGood (drop 3 ps) → IsSpelled node.If ps
if_back (Condition c ∷ Block xs ∷ Block ys ∷ ps) g r = record {
  good = (tt, (tt, (tt, r)));
  nodes = triple_nodes (stmt_spelled (stmt.If c xs ys)) node.If (cond_spelled c) (body_spelled xs) (body_spelled ys) (all_spelled ps) (if_spelled c xs ys);
}
if_back ps g r = absurd g

-- ---- blocks

-- A block that is made of a part and a block.
record IsMore (p b : Part) (xs : List Stmt) : Type 0 where
  head : Stmt
  others : List Stmt
  head_is : p ≡ Statement head
  others_are : b ≡ Block others
  whole : head ∷ others ≡ xs

more : (p b : Part) (xs : List Stmt) → with_statement p b ≡ Block xs → IsMore p b xs
more (Statement s) (Block ys) xs e = record { head = s; others = ys; head_is = refl; others_are = refl; whole = cc }
more p b xs e = absurd (cc)

-- Parts that begin with the statements of a block.
record IsTaken (k : ℕ) (ps : List Part) (xs : List Stmt) : Type 0 where
  count : length xs ≡ k
  good : AreGood ps
  nodes : run_spelled xs ++ all_spelled (drop k ps) ≡ all_spelled ps

taken_more : (s : Stmt) (xs : List Stmt) (k : ℕ) (ps : List Part) → IsTaken k ps xs → IsTaken (suc k) (Statement s ∷ ps) (s ∷ xs)
taken_more s xs k ps t = record {
  count = ap suc t.count;
  good = (tt, t.good);
  nodes = append_assoc (stmt_spelled s) (run_spelled xs) (all_spelled (drop k ps)) ∙ ap (λ (ns : List Node). stmt_spelled s ++ ns) t.nodes;
}

taken : (k : ℕ) (ps : List Part) (xs : List Stmt) → block k ps ≡ Block xs → AreGood (drop k ps) → IsTaken k ps xs
taken zero ps xs e r =
    let none : [] ≡ xs = cc in
    subst (λ (zs : List Stmt). IsTaken zero ps zs) none (record { count = refl; good = r; nodes = refl })
taken (suc k) [] xs e r = absurd (cc)
taken (suc k) (p ∷ ps) xs e r =
    let m = more p (block k ps) xs e in
    subst (λ (q : Part). IsTaken (suc k) (q ∷ ps) xs) (sym m.head_is)
    (subst (λ (zs : List Stmt). IsTaken (suc k) (Statement m.head ∷ ps) zs) m.whole (taken_more m.head m.others k ps (taken k ps m.others m.others_are r)))

-- A block whose size is right.
record IsSized (size : ℕ) (p : Part) : Type 0 where
  statements : List Stmt
  is : p ≡ Block statements
  right : size ≡ length (run_spelled statements)

kept_right : (b : Bool) (xs : List Stmt) → IsGoodPart (kept b xs) → b ≡ true
kept_right true xs g = refl
kept_right false xs g = absurd g

sized_good : (size : ℕ) (p : Part) → IsGoodPart (sized size p) → IsSized size p
sized_good size (Block xs) g = record {
  statements = xs;
  is = refl;
  right = eqb-true size (length (run_spelled xs)) (kept_right (nat_eq size (length (run_spelled xs))) xs g);
}
sized_good size p g = absurd g

sized_is : (size : ℕ) (p : Part) (xs : List Stmt) → p ≡ Block xs → size ≡ length (run_spelled xs) → sized size p ≡ Block xs
sized_is size p xs e right =
    ap (sized size) e ∙ ap (λ (b : Bool). kept b xs) (eq-eqb size (length (run_spelled xs)) right)

block_nodes : (count size : ℕ) (xs : List Stmt) (rest : List Node) → length xs ≡ count → size ≡ length (run_spelled xs)
    → body_spelled xs ++ rest ≡ node.Block count size ∷ (run_spelled xs ++ rest)
block_nodes count size xs rest e f =
    ap (λ (n : ℕ). node.Block n (length (run_spelled xs)) ∷ (run_spelled xs ++ rest)) e
    ∙ ap (λ (n : ℕ). node.Block count n ∷ (run_spelled xs ++ rest)) (sym f)

block_by : (count size : ℕ) (ps : List Part) (xs : List Stmt) → block count ps ≡ Block xs → size ≡ length (run_spelled xs) → IsTaken count ps xs → IsSpelled (node.Block count size) ps
block_by count size ps xs e right t = record {
  good = t.good;
  nodes = ap (λ (p : Part). part_spelled p ++ all_spelled (drop count ps)) (sized_is size (block count ps) xs e right)
      ∙ block_nodes count size xs (all_spelled (drop count ps)) t.count right
      ∙ ap (λ (ns : List Node). node.Block count size ∷ ns) t.nodes;
}

block_back : (count size : ℕ) (ps : List Part) → IsGoodPart (sized size (block count ps)) → AreGood (drop count ps) → IsSpelled (node.Block count size) ps
block_back count size ps g r =
    let s = sized_good size (block count ps) g in
    block_by count size ps s.statements s.is s.right (taken count ps s.statements s.is r)

node_back : (n : Node) (ps : List Part) → IsGoodPart (part_of n ps) → AreGood (drop (arity n) ps) → IsSpelled n ps
node_back (node.Lit n) ps g r = record { good = r; nodes = one_nodes_none (node.Lit n) _ (all_spelled ps) (lit_spelled n) }
node_back (node.Attr slot attr) ps g r = record { good = r; nodes = one_nodes_none (node.Attr slot attr) _ (all_spelled ps) (attr_spelled slot attr) }
node_back (node.Binary o) ps g r = binary_back o ps g r
node_back (node.Compare o) ps g r = compare_back o ps g r
node_back (node.Join o) ps g r = join_back o ps g r
node_back node.Not ps g r = not_back ps g r
node_back (node.Set slot attr) ps g r = set_back slot attr ps g r
node_back node.If ps g r = if_back ps g r
node_back (node.Block count size) ps g r = block_back count size ps g r

-- ---- what a node makes of its parts, where the others are cut off

one_same : (f : Part → Part) (ps : List Part) (j : ℕ) → f (first (take (suc j) ps)) ≡ f (first ps)
one_same f [] j = refl
one_same f (p ∷ ps) j = refl

two_same : (f : Part → Part → Part) (ps : List Part) (j : ℕ) → f (first (take (suc (suc j)) ps)) (second (take (suc (suc j)) ps)) ≡ f (first ps) (second ps)
two_same f [] j = refl
two_same f (p ∷ []) j = refl
two_same f (p ∷ q ∷ ps) j = refl

three_same : (f : Part → Part → Part → Part) (ps : List Part) (j : ℕ)
    → f (first (take (suc (suc (suc j))) ps)) (second (take (suc (suc (suc j))) ps)) (third (take (suc (suc (suc j))) ps)) ≡ f (first ps) (second ps) (third ps)
three_same f [] j = refl
three_same f (p ∷ []) j = refl
three_same f (p ∷ q ∷ []) j = refl
three_same f (p ∷ q ∷ r ∷ ps) j = refl

block_same : (count j : ℕ) (ps : List Part) → block count (take (count + j) ps) ≡ block count ps
block_same zero j ps = refl
block_same (suc count) j [] = let e : suc count + j ≡ suc (count + j) = omega arith in rw e refl
block_same (suc count) j (p ∷ ps) =
    let e : suc count + j ≡ suc (count + j) = omega arith in rw e (ap (with_statement p) (block_same count j ps))

part_same : (n : Node) (j : ℕ) (ps : List Part) → part_of n (take (arity n + j) ps) ≡ part_of n ps
part_same (node.Lit n) j ps = refl
part_same (node.Attr slot attr) j ps = refl
part_same (node.Binary o) j ps = let e : 2 + j ≡ suc (suc j) = omega arith in rw e (two_same (binary o) ps j)
part_same (node.Compare o) j ps = let e : 2 + j ≡ suc (suc j) = omega arith in rw e (two_same (comparison o) ps j)
part_same (node.Join o) j ps = let e : 2 + j ≡ suc (suc j) = omega arith in rw e (two_same (connective o) ps j)
part_same node.Not j ps = let e : 1 + j ≡ suc j = omega arith in rw e (one_same negated ps j)
part_same (node.Set slot attr) j ps = let e : 1 + j ≡ suc j = omega arith in rw e (one_same (assignment slot attr) ps j)
part_same node.If j ps = let e : 3 + j ≡ suc (suc (suc j)) = omega arith in rw e (three_same choice ps j)
part_same (node.Block count size) j ps = ap (sized size) (block_same count j ps)

-- ---- the nodes of the first parts of a list

-- Nodes whose first k parts are good begin with the nodes of these, and the others stand behind.
record IsFront (k : ℕ) (ns : List Node) : Type 0 where
  behind : List Node
  nodes : ns ≡ all_spelled (take k (parts ns)) ++ behind
  parts_are : parts behind ≡ drop k (parts ns)

front_by : (n : Node) (ns : List Node) (j : ℕ) → IsSpelled n (take (arity n + j) (parts ns)) → IsFront (arity n + j) ns → IsFront (suc j) (n ∷ ns)
front_by n ns j s f = record {
  behind = f.behind;
  nodes = ap (λ (ms : List Node). n ∷ ms) f.nodes
      ∙ ap (λ (ms : List Node). ms ++ f.behind) (sym s.nodes
      ∙ ap (λ (p : Part). part_spelled p ++ all_spelled (drop (arity n) (take (arity n + j) (parts ns)))) (part_same n j (parts ns))
      ∙ ap (λ (ps : List Part). part_spelled (part_of n (parts ns)) ++ all_spelled ps) (drop-take (arity n) j (parts ns)));
  parts_are = f.parts_are ∙ sym (drop-drop j (arity n) (parts ns));
}

front : (k : ℕ) (ns : List Node) → AreGood (take k (parts ns)) → IsFront k ns
front zero ns g = record { behind = ns; nodes = refl; parts_are = refl }
front (suc j) [] g = record { behind = []; nodes = refl; parts_are = refl }
front (suc j) (n ∷ ns) g =
    let same = sym (part_same n j (parts ns)) in
    let s = node_back n (take (arity n + j) (parts ns)) (subst IsGoodPart same g.0) (subst AreGood (sym (drop-take (arity n) j (parts ns))) g.1) in
    front_by n ns j s (front (arity n + j) ns s.good)

no_nodes : (ns : List Node) → parts ns ≡ [] → ns ≡ []
no_nodes [] e = refl
no_nodes (n ∷ ns) e = cc

-- Nodes that spell one block are the nodes of that block.
pub body_back : (ns : List Node) (xs : List Stmt) → parts ns ≡ Block xs ∷ [] → ns ≡ body_spelled xs
body_back ns xs e =
    let one : take 1 (parts ns) ≡ Block xs ∷ [] = ap (take 1) e in
    let f = front 1 ns (subst AreGood (sym one) (tt, tt)) in
    let none : f.behind ≡ [] = no_nodes f.behind (f.parts_are ∙ ap (drop 1) e) in
    f.nodes ∙ ap (λ (ms : List Node). all_spelled (take 1 (parts ns)) ++ ms) none ∙ append-nil (all_spelled (take 1 (parts ns))) ∙ ap all_spelled one ∙ append-nil (body_spelled xs)

good_of_block : (p : Part) → is_block p ≡ true → IsGoodPart p
good_of_block (Block xs) e = tt
good_of_block p e = absurd (cc)

taken_all : (k : ℕ) (ps : List Part) → drop k (take k ps) ≡ []
taken_all k ps = let e : k ≡ k + 0 = omega arith in ap (λ (n : ℕ). drop k (take n ps)) e ∙ drop-take k 0 ps

-- What stands behind the statements of a block of this size.
record IsPassed (count size : ℕ) (ns : List Node) : Type 0 where
  behind : List Node
  run : List Node
  whole : ns ≡ run ++ behind
  right : size ≡ length run
  parts_are : parts behind ≡ drop count (parts ns)

pass : (count size : ℕ) (ns : List Node) → is_block (sized size (block count (parts ns))) ≡ true → IsPassed count size ns
pass count size ns e =
    let s = sized_good size (block count (parts ns)) (good_of_block (sized size (block count (parts ns))) e) in
    let e0 : count + 0 ≡ count = omega arith in
    let cut : block count (take count (parts ns)) ≡ Block s.statements =
    ap (λ (n : ℕ). block count (take n (parts ns))) (sym e0) ∙ block_same count 0 (parts ns) ∙ s.is in
    let none : drop count (take count (parts ns)) ≡ [] = taken_all count (parts ns) in
    let t = taken count (take count (parts ns)) s.statements cut (subst AreGood (sym none) tt) in
    let f = front count ns t.good in
    let run : all_spelled (take count (parts ns)) ≡ run_spelled s.statements =
    sym t.nodes ∙ ap (λ (ps : List Part). run_spelled s.statements ++ all_spelled ps) none ∙ append-nil (run_spelled s.statements) in
    record {
      behind = f.behind;
      run = run_spelled s.statements;
      whole = f.nodes ∙ ap (λ (ms : List Node). ms ++ f.behind) run;
      right = s.right;
      parts_are = f.parts_are;
    }

passed_by : (count size : ℕ) (ns : List Node) → IsPassed count size ns → (size ≤ length ns) × (parts (drop size ns) ≡ drop count (parts ns))
passed_by count size ns p =
    let long : length ns ≡ length (p.run ++ p.behind) = ap length p.whole in
    let rest : drop size ns ≡ p.behind =
    ap (λ (n : ℕ). drop n ns) p.right ∙ ap (drop (length p.run)) p.whole ∙ drop-append_seam p.run p.behind in
    (omega (arith, long, length-append p.run p.behind, p.right), ap parts rest ∙ p.parts_are)

abbrev no_node : Node
no_node = node.Lit (pos 0)

-- A block is passed over by its size.
passed : (nodes : List Node) (count size : ℕ) → get_or nodes 0 no_node ≡ node.Block count size → is_block (first (parts nodes)) ≡ true
    → (size + 1 ≤ length nodes) × (parts (drop (size + 1) nodes) ≡ drop 1 (parts nodes))
passed [] count size is e = absurd (cc)
passed (n ∷ ns) count size is e =
    let p = passed_by count size ns (pass count size ns (subst (λ (m : Node). is_block (part_of m (parts ns)) ≡ true) is e)) in
    let within : size ≤ length ns = p.0 in
    let next : size + 1 ≡ suc size = omega arith in
    (omega arith, ap (λ (k : ℕ). parts (drop k (n ∷ ns))) next ∙ p.1 ∙ sym (ap (λ (m : Node). drop (arity m) (parts ns)) is))

pub skip_within : (nodes : List Node) (count size : ℕ) → get_or nodes 0 no_node ≡ node.Block count size → is_block (first (parts nodes)) ≡ true → size + 1 ≤ length nodes
skip_within nodes count size is e = (passed nodes count size is e).0

pub skip_parts : (nodes : List Node) (count size : ℕ) → get_or nodes 0 no_node ≡ node.Block count size → is_block (first (parts nodes)) ≡ true
    → parts (take (length nodes - (size + 1)) (drop (size + 1) nodes)) ≡ drop 1 (parts nodes)
skip_parts nodes count size is e =
    let cut : length nodes - (size + 1) ≡ length (drop (size + 1) nodes) = sym (length-drop (size + 1) nodes) in
    ap (λ (k : ℕ). parts (take k (drop (size + 1) nodes))) cut ∙ ap parts (take-length (drop (size + 1) nodes)) ∙ (passed nodes count size is e).1
