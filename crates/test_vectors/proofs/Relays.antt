-- The great replies are within the grammar, and their numbers are those of their types.
use Rattle.std.proofs.Common.{◌≡◌, ℕ, zero, suc, ◌+◌, ◌*◌, ◌<◌, ◌≤◌, Bool, true, List, [], ◌∷◌, ◌++◌, length, map, max, pos, refl, ap, ◌∙◌, arith, add-one, ◌^◌, length-append, FitsSigned}
use Rattle.std.specs.List.{AllByRecursion}
use Rattle.std.specs.Int.{w32, w64}
use Rattle.std.proofs.lemmas.Int.{fits_signed_from_abs}
use Rattle.std.proofs.lemmas.Bool.{and_parts, and_from}
use Rattle.std.proofs.lemmas.List.{map-append}
use Rattle.std.proofs.lemmas.List.Elements.{All-from_recursion}
use Rattle.sv_world.specs.Control.{below}
use Rattle.sv_world.specs.Faults.{is_ascending}
use Rattle.sv_world.specs.Trees.{stmt_nodes, stmt_depth, body_nodes, body_depth, all_true}
use Rattle.sv_world.proofs.Bases.{below-ascending}
use Rattle.sv_world.specs.declared.world.ObjectId.{ObjectId}
use Rattle.sv_world.specs.declared.action.Expr.TheVariants as exprs
use Rattle.sv_world.specs.declared.action.Stmt.{Stmt}
use Rattle.sv_wire.specs.declared.message.ObjectValue.{ObjectValue}
use Rattle.sv_wire.specs.declared.message.Item.{Item}
use Rattle.sv_wire.specs.declared.message.Reply.TheVariants as replies
use Rattle.sv_wire.proofs.Append.{nodes_more}
use Rattle.sv_world.proofs.Layers.{lit_fold, set_fold}
use Rattle.sv_wire.specs.Grammar.{IsWireValue, IsWireAction, IsWireHeadUpTo, IsWireWork}
use Rattle.sv_world.specs.Ranges.{expr_fits_step, stmt_fits_step, stmt_fits, ObjectFits}
use Rattle.sv_world.proofs.TreeMeasures.{lit_nodes, lit_depth, set_nodes, set_depth}
use Rattle.sv_wire.specs.Ranges.{HeldFits, ActionFits, ItemFits}
use Rattle.sv_wire.specs.Laws.{IsReply}
use Rattle.test_vectors.specs.Worked.{greatest_number, great_held, great_heads, great_reads, great_stmt, great_body, great_action, great_item, great_items}

all_push : {A : Type 0} (P : A → Type 0) (xs : List A) (x : A) → AllByRecursion P xs → P x → AllByRecursion P (xs ++ x ∷ [])
all_push P [] x all h = (h, tt)
all_push P (y ∷ ys) x all h = (all.0, all_push P ys x all.1 h)

greatest_fits : FitsSigned w64 greatest_number
greatest_fits = fits_signed_from_abs w64 greatest_number (omega arith)

-- ---- Values

heads_count : (n : ℕ) → length (great_heads n) ≡ n
unfolding great_heads
heads_count zero = refl
heads_count (suc n) = omega (arith, length-append (great_heads n) (great_held n ∷ []), heads_count n)

heads_below : (n : ℕ) → map (λ (h : ObjectValue). h.object.0) (great_heads n) ≡ below n
unfolding great_heads
heads_below zero = refl
heads_below (suc n) = map-append (λ (h : ObjectValue). h.object.0) (great_heads n) (great_held n ∷ []) ∙ ap (λ (l : List ℕ). l ++ n ∷ []) (heads_below n)

heads_valued : (n : ℕ) → AllByRecursion (λ (h : ObjectValue). IsWireValue h.value) (great_heads n)
unfolding great_heads
heads_valued zero = tt
heads_valued (suc n) = all_push (λ (h : ObjectValue). IsWireValue h.value) (great_heads n) (great_held n) (heads_valued n) (omega arith, omega arith)

heads_fit : (n : ℕ) → n ≤ 544 → AllByRecursion HeldFits (great_heads n)
unfolding great_heads
heads_fit zero few = tt
heads_fit (suc n) few =
    all_push HeldFits (great_heads n) (great_held n) (heads_fit n (omega arith)) (omega arith, (greatest_fits, (greatest_fits, (greatest_fits, (greatest_fits, tt)))))

heads_are : (n : ℕ) → IsWireHeadUpTo n (great_heads n)
heads_are n =
    record {
      few = omega (arith, heads_count n);
      ascending = ap is_ascending (heads_below n) ∙ below-ascending n;
      values = All-from_recursion (λ (h : ObjectValue). IsWireValue h.value) (great_heads n) (heads_valued n);
    }

-- ---- The action

reads_count : (n : ℕ) → length (great_reads n) ≡ n
unfolding great_reads
reads_count zero = refl
reads_count (suc n) = omega (arith, length-append (great_reads n) (record { 0 = n } ∷ []), reads_count n)

reads_below : (n : ℕ) → map (λ (o : ObjectId). o.0) (great_reads n) ≡ below n
unfolding great_reads
reads_below zero = refl
reads_below (suc n) = map-append (λ (o : ObjectId). o.0) (great_reads n) (record { 0 = n } ∷ []) ∙ ap (λ (l : List ℕ). l ++ n ∷ []) (reads_below n)

reads_fit : (n : ℕ) → n ≤ 16 → AllByRecursion ObjectFits (great_reads n)
unfolding great_reads
reads_fit zero few = tt
reads_fit (suc n) few = all_push ObjectFits (great_reads n) (record { 0 = n }) (reads_fit n (omega arith)) (omega arith)

stmt_size : stmt_nodes great_stmt ≡ 2
stmt_size = set_nodes 0 0 (exprs.Lit greatest_number) ∙ ap (λ (n : ℕ). 1 + n) (lit_nodes greatest_number)

stmt_levels : stmt_depth great_stmt ≡ 2
stmt_levels = set_depth 0 0 (exprs.Lit greatest_number) ∙ ap (λ (n : ℕ). 1 + n) (lit_depth greatest_number)

stmt_fit : stmt_fits great_stmt ≡ true
stmt_fit = set_fold Bool stmt_fits_step 0 0 (exprs.Lit greatest_number) ∙ lit_fold Bool expr_fits_step greatest_number

nodes-push : (xs : List Stmt) (x : Stmt) → body_nodes (xs ++ x ∷ []) ≡ body_nodes xs + stmt_nodes x
nodes-push [] x = omega (arith, nodes_more x [])
nodes-push (y ∷ ys) x = omega (arith, nodes_more y (ys ++ x ∷ []), nodes_more y ys, nodes-push ys x)

depth-push : (xs : List Stmt) (x : Stmt) → body_depth (xs ++ x ∷ []) ≡ max (body_depth xs) (stmt_depth x)
depth-push [] x = omega arith
depth-push (y ∷ ys) x = omega (arith, depth-push ys x)

fits-push : (xs : List Stmt) (x : Stmt) → all_true (map stmt_fits xs) ≡ true → stmt_fits x ≡ true → all_true (map stmt_fits (xs ++ x ∷ [])) ≡ true
fits-push [] x h e = rw e refl
fits-push (y ∷ ys) x h e =
    let parts = and_parts (stmt_fits y) (all_true (map stmt_fits ys)) h in
    and_from (stmt_fits y) (all_true (map stmt_fits (ys ++ x ∷ []))) parts.0 (fits-push ys x parts.1 e)

body_size : (n : ℕ) → body_nodes (great_body n) ≡ n * 2
unfolding great_body
body_size zero = refl
body_size (suc n) = omega (arith, nodes-push (great_body n) great_stmt, body_size n, stmt_size)

body_levels : (n : ℕ) → body_depth (great_body n) ≤ 2
unfolding great_body
body_levels zero = omega arith
body_levels (suc n) = omega (arith, depth-push (great_body n) great_stmt, body_levels n, stmt_levels)

body_fit : (n : ℕ) → all_true (map stmt_fits (great_body n)) ≡ true
unfolding great_body
body_fit zero = refl
body_fit (suc n) = fits-push (great_body n) great_stmt (body_fit n) stmt_fit

mask_within : (n : ℕ) → n ≡ 16 → 65535 < 2 ^ n
mask_within n e = rw e (omega arith)

action_is : IsWireAction great_action
action_is =
    record {
      some_reads = omega (arith, reads_count 16);
      few_reads = omega (arith, reads_count 16);
      ascending = ap is_ascending (reads_below 16) ∙ below-ascending 16;
      mask = mask_within (length (great_reads 16)) (reads_count 16);
      few_nodes = omega (arith, body_size 32);
      shallow = omega (arith, body_levels 32);
    }

action_fits : ActionFits great_action
action_fits = record { reads = reads_fit 16 (omega arith); mask = omega arith; x = fits_signed_from_abs w32 (pos 0) (omega arith); y = fits_signed_from_abs w32 (pos 0) (omega arith); body = body_fit 32 }

-- ---- The replies

items_count : (n : ℕ) → length (great_items n) ≡ n
unfolding great_items
items_count zero = refl
items_count (suc n) = omega (arith, length-append (great_items n) (great_item ∷ []), items_count n)

items_are : (n : ℕ) → AllByRecursion (λ (i : Item). IsWireAction i.action) (great_items n)
unfolding great_items
items_are zero = tt
items_are (suc n) = all_push (λ (i : Item). IsWireAction i.action) (great_items n) great_item (items_are n) action_is

items_fit : (n : ℕ) → AllByRecursion ItemFits (great_items n)
unfolding great_items
items_fit zero = tt
items_fit (suc n) = all_push ItemFits (great_items n) great_item (items_fit n) (record { pos = omega arith; client = omega arith; seq = omega arith; action = action_fits })

work_is : (n : ℕ) → IsWireWork n (great_heads n) (great_items 33)
work_is n =
    record {
      base = heads_are n;
      few = omega (arith, items_count 33);
      each = All-from_recursion (λ (i : Item). IsWireAction i.action) (great_items 33) (items_are 33);
    }

pub relay_is : IsReply (replies.Relay 1 0 (great_heads 528) (great_items 33))
relay_is = record { within = work_is 528; fits = (omega arith, omega arith, heads_fit 528 (omega arith), items_fit 33) }

pub seen_is : IsReply (replies.Seen 1 0 (great_heads 544) (great_items 33))
seen_is = record { within = work_is 544; fits = (omega arith, omega arith, heads_fit 544 (omega arith), items_fit 33) }

-- ---- One more of each

pub heads_more : (n : ℕ) → great_heads (n + 1) ≡ great_heads n ++ great_held n ∷ []
unfolding great_heads
heads_more n = rw (add-one n) refl

pub reads_more : (n : ℕ) → great_reads (n + 1) ≡ great_reads n ++ record { 0 = n } ∷ []
unfolding great_reads
reads_more n = rw (add-one n) refl

pub body_more : (n : ℕ) → great_body (n + 1) ≡ great_body n ++ great_stmt ∷ []
unfolding great_body
body_more n = rw (add-one n) refl

pub items_more : (n : ℕ) → great_items (n + 1) ≡ great_items n ++ great_item ∷ []
unfolding great_items
items_more n = rw (add-one n) refl

-- ---- None

pub heads_none : [] ≡ great_heads 0
unfolding great_heads
heads_none = refl

pub reads_none : [] ≡ great_reads 0
unfolding great_reads
reads_none = refl

pub body_none : [] ≡ great_body 0
unfolding great_body
body_none = refl

pub items_none : [] ≡ great_items 0
unfolding great_items
items_none = refl
