-- The test that two bodies are the same is passed just by equal ones.
use Rattle.std.proofs.Common.{◌≡◌, ℕ, ◌<◌, ◌≤◌, ℤ, pos, negsuc, length, arith, Bool, true, false, ◌&&◌, List, [], ◌∷◌, nat_eq, refl, sym, ap, ◌∙◌, eq-eqb, eqb-true}
use Rattle.std.specs.Prelude.{if◌then◌else◌}
use Rattle.std.specs.Ordering.{int_eq}
use Rattle.std.proofs.lemmas.Bool.Decides.{Decides-int_eq}
use Rattle.sv_world.specs.declared.action.Stmt.{Stmt}
use Rattle.sv_world.specs.declared.node.Node.{Node}
use Rattle.sv_world.specs.declared.node.Node.TheVariants as node
use Rattle.sv_world.specs.declared.node.Operator.{Operator}
use Rattle.sv_world.specs.declared.node.Operator.TheVariants.{Add, Sub, Mul, Div, Rem, Min, Max}
use Rattle.sv_world.specs.declared.node.Comparison.{Comparison}
use Rattle.sv_world.specs.declared.node.Comparison.TheVariants.{Eq, Lt, Le}
use Rattle.sv_world.specs.declared.node.Connective.{Connective}
use Rattle.sv_world.specs.declared.node.Connective.TheVariants.{And, Or}
use Rattle.sv_world.specs.Parts.{Block, first, block_in, parts}
use Rattle.sv_world.specs.Same.{operator_number, comparison_number, connective_number, node_kind, node_field, last_field, is_same_node, are_same_nodes, is_same_body}
use Rattle.sv_world.specs.Spelled.{body_spelled}
use Rattle.sv_world.proofs.Back.{body_back}
use Rattle.sv_world.proofs.Spells.{body_view}

pub int_same : (m n : ℤ) → int_eq m n ≡ true → m ≡ n
int_same m n h = (Decides-int_eq m n).0 h

pub int_own : (n : ℤ) → int_eq n n ≡ true
int_own n = (Decides-int_eq n n).1 refl

num_own : (n : ℕ) → nat_eq n n ≡ true
num_own n = eq-eqb n n refl

-- ---- operators by their numbers

operator_at : ℕ → Operator
operator_at n =
    if nat_eq n 0 then Add else if nat_eq n 1 then Sub else if nat_eq n 2 then Mul else if nat_eq n 3 then Div else if nat_eq n 4 then Rem else if nat_eq n 5 then Min else Max

operator_back : (o : Operator) → operator_at (operator_number o) ≡ o
unfolding operator_at
operator_back Add = refl
operator_back Sub = refl
operator_back Mul = refl
operator_back Div = refl
operator_back Rem = refl
operator_back Min = refl
operator_back Max = refl

comparison_at : ℕ → Comparison
comparison_at n = if nat_eq n 0 then Eq else if nat_eq n 1 then Lt else Le

comparison_back : (o : Comparison) → comparison_at (comparison_number o) ≡ o
unfolding comparison_at
comparison_back Eq = refl
comparison_back Lt = refl
comparison_back Le = refl

connective_at : ℕ → Connective
connective_at n = if nat_eq n 0 then And else Or

connective_back : (o : Connective) → connective_at (connective_number o) ≡ o
unfolding connective_at
connective_back And = refl
connective_back Or = refl

-- ---- nodes

and_parts : (x y : Bool) → (x && y) ≡ true → (x ≡ true) × (y ≡ true)
and_parts true y h = (refl, h)
and_parts false y h = absurd (cc)

and_from : (x y : Bool) → x ≡ true → y ≡ true → (x && y) ≡ true
and_from true y e f = f
and_from false y e f = cc

nat_of : ℤ → ℕ
nat_of (pos n) = n
nat_of (negsuc n) = 0

node_at : ℕ → ℤ → ℕ → Node
node_at kind field last =
    if nat_eq kind 0 then node.Lit field
    else if nat_eq kind 1 then node.Attr (nat_of field) last
    else if nat_eq kind 2 then node.Binary (operator_at (nat_of field))
    else if nat_eq kind 3 then node.Compare (comparison_at (nat_of field))
    else if nat_eq kind 4 then node.Join (connective_at (nat_of field))
    else if nat_eq kind 5 then node.Not
    else if nat_eq kind 6 then node.Set (nat_of field) last
    else if nat_eq kind 7 then node.If
    else node.Block (nat_of field) last

node_back : (n : Node) → node_at (node_kind n) (node_field n) (last_field n) ≡ n
unfolding node_at nat_of
node_back (node.Lit n) = refl
node_back (node.Attr s a) = refl
node_back (node.Binary o) = ap (λ (x : Operator). node.Binary x) (operator_back o)
node_back (node.Compare o) = ap (λ (x : Comparison). node.Compare x) (comparison_back o)
node_back (node.Join o) = ap (λ (x : Connective). node.Join x) (connective_back o)
node_back node.Not = refl
node_back (node.Set s a) = refl
node_back node.If = refl
node_back (node.Block c z) = refl

node_same : (m n : Node) → is_same_node m n ≡ true → m ≡ n
node_same m n h =
    let e = and_parts (nat_eq (node_kind m) (node_kind n) && int_eq (node_field m) (node_field n)) (nat_eq (last_field m) (last_field n)) h in
    let f = and_parts (nat_eq (node_kind m) (node_kind n)) (int_eq (node_field m) (node_field n)) e.0 in
    sym (node_back m)
    ∙ ap (λ (k : ℕ). node_at k (node_field m) (last_field m)) (eqb-true (node_kind m) (node_kind n) f.0)
    ∙ ap (λ (z : ℤ). node_at (node_kind n) z (last_field m)) (int_same (node_field m) (node_field n) f.1)
    ∙ ap (node_at (node_kind n) (node_field n)) (eqb-true (last_field m) (last_field n) e.1)
    ∙ node_back n

node_own : (n : Node) → is_same_node n n ≡ true
node_own n =
    and_from (nat_eq (node_kind n) (node_kind n) && int_eq (node_field n) (node_field n)) (nat_eq (last_field n) (last_field n))
    (and_from (nat_eq (node_kind n) (node_kind n)) (int_eq (node_field n) (node_field n)) (num_own (node_kind n)) (int_own (node_field n))) (num_own (last_field n))

nodes_same : (ms ns : List Node) → are_same_nodes ms ns ≡ true → ms ≡ ns
nodes_same [] [] h = refl
nodes_same [] (n ∷ ns) h = cc
nodes_same (m ∷ ms) [] h = cc
nodes_same (m ∷ ms) (n ∷ ns) h =
    let e = and_parts (is_same_node m n) (are_same_nodes ms ns) h in
    ap (λ (x : Node). x ∷ ms) (node_same m n e.0) ∙ ap (λ (xs : List Node). n ∷ xs) (nodes_same ms ns e.1)

nodes_own : (ns : List Node) → are_same_nodes ns ns ≡ true
nodes_own [] = refl
nodes_own (n ∷ ns) = and_from (is_same_node n n) (are_same_nodes ns ns) (node_own n) (nodes_own ns)

-- ---- bodies

pub body_same : (xs ys : List Stmt) → is_same_body xs ys ≡ true → xs ≡ ys
unfolding is_same_body
body_same xs ys h =
    sym (body_view (body_spelled xs) xs refl)
    ∙ ap (λ (ns : List Node). block_in (first (parts ns))) (nodes_same (body_spelled xs) (body_spelled ys) h)
    ∙ body_view (body_spelled ys) ys refl

pub body_own : (xs : List Stmt) → is_same_body xs xs ≡ true
unfolding is_same_body
body_own xs = nodes_own (body_spelled xs)

pub spelled_same : (ms ns : List Node) (xs ys : List Stmt) → parts ms ≡ Block xs ∷ [] → parts ns ≡ Block ys ∷ [] → are_same_nodes ms ns ≡ is_same_body xs ys
unfolding is_same_body
spelled_same ms ns xs ys e f =
    ap (λ (us : List Node). are_same_nodes us ns) (body_back ms xs e) ∙ ap (are_same_nodes (body_spelled xs)) (body_back ns ys f)

pub shorter_differs : (ms ns : List Node) → 1 ≤ length ms → length ns < 1 → are_same_nodes ms ns ≡ false
shorter_differs [] ns l s = absurd (omega arith)
shorter_differs (m ∷ ms) [] l s = refl
shorter_differs (m ∷ ms) (n ∷ ns) l s = absurd (omega arith)
