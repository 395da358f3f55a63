-- What a reply makes of the values held and of the pending actions.
use Rattle.std.proofs.Common.{◌≡◌, ℕ, suc, ◌≤◌, ◌⊎◌, inl, inr, List, [], ◌∷◌, ◌++◌, drop, Option, Some, None, Result, Ok, Err, eqb, refl, sym, ap, subst, ◌∙◌, arith}
use Rattle.std.specs.Prelude.{if◌then◌else◌, IfSome, IfOk, IfErr, OnOk, option_to_list}
use Rattle.sv_versions.specs.Held.{Held, AnswersAbove}
use Rattle.sv_pending.specs.Pending.{PendingAction, redone}
use Rattle.sv_world.specs.declared.world.ObjectId.{ObjectId}
use Rattle.sv_world.specs.Sets.{read_set}
use Rattle.sv_wire.specs.declared.message.ObjectValue.{ObjectValue}
use Rattle.sv_wire.specs.declared.message.Item.{Item}
use Rattle.sv_wire.specs.declared.message.Done1.{Done1}
use Rattle.sv_wire.specs.declared.message.Request.{Request}
use Rattle.sv_wire.specs.declared.message.Request.TheVariants as requests
use Rattle.sv_wire.specs.declared.message.Reply.{Reply}
use Rattle.sv_wire.specs.declared.message.Reply.TheVariants as replies
use Rattle.sv_client.specs.declared.fault.TakeFault.{TakeFault}
use Rattle.sv_client.specs.declared.fault.TakeFault.TheVariants as faults
use Rattle.sv_client.specs.declared.kinds.Awaited.{Awaited}
use Rattle.sv_client.specs.Seen.{fault_named}
use Rattle.sv_client.specs.Traces.{head_held, item_held, with_items, with_reply, results_of, done_for, pending_with, last_values, settled_by, without_front, has_news}
use Rattle.sv_client.specs.Taking.{Fault, first_missing_of, first_missing_seen, first_unheld, missing_at, missing_fault, missing_in, observed_by}
use Rattle.sv_client.specs.Evaluating.{IsApplied, IsMissing, done_with}
use Rattle.sv_client.proofs.Standing.{settled_same, redone_same, missing_same}

pub relay_applied : (told seq commit : ℕ) (all kept : List Held) (kind : Option Awaited) (head : List ObjectValue) (items : List Item) (results : List Done1) (before after : List PendingAction)
    → AnswersAbove told kept (with_items (all ++ head_held commit head) items) → first_missing_of (all ++ head_held commit head) items ≡ None
    → results ≡ results_of (all ++ head_held commit head) items
    → after ≡ (if eqb seq 0 then before else settled_by kept (last_values results) before)
    → IsApplied told all kind (replies.Relay seq commit head items) before (Ok (Some (requests.Done results))) kept after
relay_applied told seq commit all kept kind head items results before after s m r e =
    let own = ap (λ (rs : List Done1). settled_by (with_items (all ++ head_held commit head) items) (last_values rs) before) r in (
      m,
      ap (λ (rs : List Done1). requests.Done rs ∷ []) r,
      e ∙ ap (λ (qs : List PendingAction). if eqb seq 0 then before else qs) (settled_same s (last_values results) before ∙ own),
      s,
    )

-- ---- The front action taken out

front_applied : (told : ℕ) (all kept : List Held) (kind : Option Awaited) (reply : Reply) (before after : List PendingAction) (r : Result (Option Request) TakeFault)
    → missing_in all kind reply ≡ None → done_for all reply ≡ [] → pending_with all (with_reply all reply) reply before ≡ redone all (without_front before) → with_reply all reply ≡ all
    → AnswersAbove told kept all → IfOk r (λ made. made ≡ None) → IfErr r (λ fault. fault ≡ faults.Memory) → OnOk r (after ≡ redone kept (without_front before))
    → IsApplied told all kind reply before r kept after
front_applied told all kept kind reply before after (Ok made) m d p w s n f i = (
  m,
  ap (λ (o : Option Request). option_to_list o) n ∙ sym d,
  i ∙ redone_same s (without_front before) ∙ sym p,
  subst (AnswersAbove told kept) (sym w) s,
)
front_applied told all kept kind reply before after (Err fault) m d p w s n f i = subst (IsMissing (missing_in all kind reply)) (sym f) tt

-- A reply that takes the front action out, which was not accepted or is settled.
abbrev TakesFront : Reply → Type 0
TakesFront reply =
    ((seq : ℕ) × (chain : ℕ) × (far : ℕ) × (reply ≡ replies.Dropped seq chain far))
    ⊎ (((seq : ℕ) × (object : ObjectId) × (reply ≡ replies.Denied seq object)) ⊎ ((seq : ℕ) × (pos : ℕ) × (reply ≡ replies.Settled seq pos)))

pub without_applied : (told : ℕ) (all kept : List Held) (kind : Option Awaited) (reply : Reply) (before after : List PendingAction) (r : Result (Option Request) TakeFault)
    → TakesFront reply → AnswersAbove told kept all → IfOk r (λ made. made ≡ None) → IfErr r (λ fault. fault ≡ faults.Memory) → OnOk r (after ≡ redone kept (without_front before))
    → IsApplied told all kind reply before r kept after
without_applied told all kept kind reply before after r (inl t) s n f i =
    subst (λ (x : Reply). IsApplied told all kind x before r kept after) (sym t.3) (front_applied told all kept kind (replies.Dropped t.0 t.1 t.2) before after r refl refl refl refl s n f i)
without_applied told all kept kind reply before after r (inr (inl t)) s n f i =
    subst (λ (x : Reply). IsApplied told all kind x before r kept after) (sym t.2) (front_applied told all kept kind (replies.Denied t.0 t.1) before after r refl refl refl refl s n f i)
without_applied told all kept kind reply before after r (inr (inr t)) s n f i =
    subst (λ (x : Reply). IsApplied told all kind x before r kept after) (sym t.2) (front_applied told all kept kind (replies.Settled t.0 t.1) before after r refl refl refl refl s n f i)

-- ---- What was seen

-- The first of two that is there.
abbrev first_there : Option (ℕ × ℕ) → Option (ℕ × ℕ) → Option (ℕ × ℕ)
first_there None other = other
first_there (Some missing) other = Some missing

there_at : (pos : ℕ) (o : Option ℕ) (m other : Option (ℕ × ℕ)) → missing_at pos o (first_there m other) ≡ first_there (missing_at pos o m) other
there_at pos None m other = refl
there_at pos (Some x) m other = refl

-- A value that an item lacks comes before one that what is seen lacks.
seen_missing : (held : List Held) (items : List Item) (last : ℕ) (xs : List ℕ)
    → first_missing_seen held items last xs ≡ first_there (first_missing_of held items) (missing_at (suc last) (first_unheld (with_items held items) (suc last) xs) None)
seen_missing held [] last xs = refl
seen_missing held (i ∷ items) last xs =
    ap (missing_at i.pos (first_unheld held i.pos (read_set i.action))) (seen_missing (held ++ item_held held i) items last xs)
    ∙ there_at i.pos (first_unheld held i.pos (read_set i.action)) (first_missing_of (held ++ item_held held i) items)
    (missing_at (suc last) (first_unheld (with_items (held ++ item_held held i) items) (suc last) xs) None)

named_there : (m other : Option (ℕ × ℕ)) (f : Fault) → missing_fault m ≡ Some f → missing_fault (first_there m other) ≡ Some f
named_there None other f e = cc
named_there (Some p) other f e = e

missing_there : (m other : Option (ℕ × ℕ)) (fault : TakeFault) → IsMissing m fault → IsMissing (first_there m other) fault
missing_there m other fault h = go (fault_named fault) h
  where
    go : (o : Option Fault) → IfSome o (λ f. missing_fault m ≡ Some f) → IfSome o (λ f. missing_fault (first_there m other) ≡ Some f)
    go None h = tt
    go (Some f) h = named_there m other f h

pub item_misses : (held : List Held) (items : List Item) (last : ℕ) (xs : List ℕ) (fault : TakeFault) → IsMissing (first_missing_of held items) fault → IsMissing (first_missing_seen held items last xs) fault
item_misses held items last xs fault h =
    let other = missing_at (suc last) (first_unheld (with_items held items) (suc last) xs) None in
    subst (λ (m : Option (ℕ × ℕ)). IsMissing m fault) (sym (seen_missing held items last xs)) (missing_there (first_missing_of held items) other fault h)

pub seen_misses : (told : ℕ) (kept held : List Held) (items : List Item) (last : ℕ) (xs : List ℕ) (fault : TakeFault) → AnswersAbove told kept (with_items held items) → told ≤ last
    → first_missing_of held items ≡ None → IsMissing (missing_at (suc last) (first_unheld kept (suc last) xs) None) fault → IsMissing (first_missing_seen held items last xs) fault
seen_misses told kept held items last xs fault s l none h =
    let same = missing_same s (suc last) (omega (arith, l)) xs in
    let whole = seen_missing held items last xs ∙ ap (λ (m : Option (ℕ × ℕ)). first_there m (missing_at (suc last) (first_unheld (with_items held items) (suc last) xs) None)) none in
    subst (λ (m : Option (ℕ × ℕ)). IsMissing m fault) (sym whole) (subst (λ (o : Option ℕ). IsMissing (missing_at (suc last) o None) fault) same h)

seen_done : (last commit : ℕ) (all : List Held) (head : List ObjectValue) (items : List Item) → done_with (results_of (all ++ head_held commit head) items) ≡ done_for all (replies.Seen last commit head items)
seen_done last commit all head [] = refl
seen_done last commit all head (i ∷ items) = refl

pub seen_applied : (told last commit : ℕ) (all kept : List Held) (kind : Option Awaited) (head : List ObjectValue) (items : List Item) (results : List Done1) (before after : List PendingAction) (made : Option Request)
    → AnswersAbove told kept (with_items (all ++ head_held commit head) items) → told ≤ last → first_missing_of (all ++ head_held commit head) items ≡ None
    → first_unheld kept (suc last) (observed_by kind) ≡ None → results ≡ results_of (all ++ head_held commit head) items
    → after ≡ (if has_news head items then redone kept before else before) → option_to_list made ≡ done_with results
    → IsApplied told all kind (replies.Seen last commit head items) before (Ok made) kept after
seen_applied told last commit all kept kind head items results before after made s l m u r e d =
    let held = all ++ head_held commit head in
    let same = missing_same s (suc last) (omega (arith, l)) (observed_by kind) in
    let none : first_unheld (with_items held items) (suc last) (observed_by kind) ≡ None = sym same ∙ u in (
      seen_missing held items last (observed_by kind) ∙ ap (λ (o : Option (ℕ × ℕ)). first_there o (missing_at (suc last) (first_unheld (with_items held items) (suc last) (observed_by kind)) None)) m
          ∙ ap (λ (o : Option ℕ). missing_at (suc last) o None) none,
      d ∙ ap done_with r ∙ seen_done last commit all head items,
      e ∙ ap (λ (qs : List PendingAction). if has_news head items then qs else before) (redone_same s before),
      s,
    )

pub rest_is : (ps : List PendingAction) → drop 1 ps ≡ without_front ps
rest_is [] = refl
rest_is (p ∷ ps) = refl
