-- A slot that is forgotten.
use Rattle.std.proofs.Common.{◌≡◌, ℕ, zero, suc, ◌+◌, ◌<◌, Bool, true, false, ◌&&◌, not, nat_eq, cond, List, [], ◌∷◌, ◌++◌, map, filter, length, All, get_or, ℤ, refl, sym, ◌∙◌, ap, ap₂, subst, arith}
use Rattle.std.proofs.lemmas.List.{get_or-map, length-map}
use Rattle.std.proofs.lemmas.List.Elements.{filter-append}
use Rattle.sv_world.specs.declared.action.Action.{Action}
use Rattle.sv_world.specs.declared.world.Shape.{Shape}
use Rattle.sv_world.specs.Control.{is_in}
use Rattle.sv_world.specs.Sets.{write_set}
use Rattle.sv_queue.specs.declared.waiting.WaitingAction.{WaitingAction}
use Rattle.sv_queue.specs.Invariant.{AgreeOn, IsGoodEntry, slots_in, writers_above}
use Rattle.sv_queue.specs.Marks.{all_queued, marks_of, queued_of, waiting_but}
use Rattle.sv_queue.specs.Pairs.{is_pair, pairs_where, pairs_of, pairs_but}
use Rattle.sv_queue.specs.Queue.{Queued, entry_actions, no_entry, unmarked}
use Rattle.sv_queue.specs.Slots.{SlotSet, all_but, set_but, slots_where}
use Rattle.sv_queue.proofs.Members.{is_in-filtered}
use Rattle.sv_queue.proofs.PairSets.{pairs_where-ext}
use Rattle.sv_queue.proofs.SlotWords.{all_but-where}

pub queued-but : (s : ℕ) (ws : List WaitingAction) → all_queued (map (waiting_but s) ws) ≡ map (unmarked s) (all_queued ws)
queued-but s [] = refl
queued-but s (w ∷ ws) = ap (λ (es : List Queued). unmarked s (queued_of w) ∷ es) (queued-but s ws)

pub marks-but : (s : ℕ) (ws : List WaitingAction) → marks_of (map (waiting_but s) ws) ≡ map (set_but s) (marks_of ws)
marks-but s [] = refl
marks-but s (w ∷ ws) = ap (λ (rs : List SlotSet). set_but s w.marks ∷ rs) (marks-but s ws)

pub rows-but : (s : ℕ) (rows : List SlotSet) → slots_in (map (set_but s) rows) ≡ map (all_but s) (slots_in rows)
rows-but s [] = refl
rows-but s (r ∷ rows) = ap (λ (ss : List (List ℕ)). all_but s r.slots ∷ ss) (rows-but s rows)

pub actions-but : (s : ℕ) (es : List Queued) → entry_actions (map (unmarked s) es) ≡ entry_actions es
actions-but s [] = refl
actions-but s (e ∷ es) = ap (λ (bs : List Action). e.action ∷ bs) (actions-but s es)

writers-but : (n s : ℕ) (es : List Queued) (x : ℕ) → writers_above n (map (unmarked s) es) x ≡ writers_above n es x
writers-but n s [] x = refl
writers-but n s (e ∷ es) x = ap (λ (ps : List ℕ). cond (is_in x (write_set e.action)) (suc n ∷ ps) ps) (writers-but (suc n) s es x)

pub agree_but : (shape : Shape) (commit : ℕ) (committed : List (List ℤ)) (s : ℕ) (es : List Queued) (writers rows : List (List ℕ)) →
    AgreeOn shape commit committed es writers rows → AgreeOn shape commit committed (map (unmarked s) es) writers (map (all_but s) rows)
agree_but shape commit committed s es writers rows h = record {
  limits = h.limits;
  objects = h.objects;
  attrs = h.attrs;
  good = λ k d low.
      (let l : k < length es = omega (arith, low, length-map es (unmarked s)) in
      let g = h.good k no_entry l in
      let good : IsGoodEntry shape (unmarked s (get_or es k no_entry)) = record { action = g.action; values = g.values; attrs = g.attrs } in
      subst (IsGoodEntry shape) (sym (get_or-map (unmarked s) es k no_entry d l)) good);
  last = omega (arith, h.last, length-map es (unmarked s));
  lists = h.lists;
  indexed = λ x low. h.indexed x low ∙ sym (writers-but commit s es x);
  given = length-map rows (all_but s) ∙ h.given;
}

row-but : (n s : ℕ) (ts : List ℕ) → pairs_but s (map (λ t. (n, t)) ts) ≡ map (λ t. (n, t)) (all_but s ts)
row-but n s [] = refl
row-but n s (t ∷ ts) = go (not (nat_eq t s)) (row-but n s ts)
  where
    go : (b : Bool) → pairs_but s (map (λ u. (n, u)) ts) ≡ map (λ u. (n, u)) (all_but s ts) →
        cond b ((n, t) ∷ pairs_but s (map (λ u. (n, u)) ts)) (pairs_but s (map (λ u. (n, u)) ts)) ≡ map (λ u. (n, u)) (cond b (t ∷ all_but s ts) (all_but s ts))
    go true h = ap (λ (ps : List (ℕ × ℕ)). (n, t) ∷ ps) h
    go false h = h

pairs_where-but : (n s : ℕ) (p : ℕ → ℕ → Bool) → pairs_but s (pairs_where n p) ≡ pairs_where n (λ x t. p x t && not (nat_eq t s))
unfolding pairs_where
pairs_where-but zero s p = refl
pairs_where-but (suc n) s p =
    filter-append (λ (q : ℕ × ℕ). not (nat_eq q.1 s)) (pairs_where n p) (map (λ t. (n, t)) (slots_where (p n)))
    ∙ ap₂ (λ (ps qs : List (ℕ × ℕ)). ps ++ qs) (pairs_where-but n s p) (row-but n s (slots_where (p n)) ∙ ap (λ (ts : List ℕ). map (λ t. (n, t)) ts) (all_but-where (p n) s))

-- The pairs of rows without the slot.
pub pairs_of-but : (n s : ℕ) (rows : List (List ℕ)) → length rows ≡ n → pairs_of n (map (all_but s) rows) ≡ pairs_but s (pairs_of n rows)
pairs_of-but n s rows count = pairs_where-ext _ _ n (λ x t low small.
    (let l : x < length rows = omega (arith, low, count) in
    ap (is_in t) (get_or-map (all_but s) rows x [] [] l) ∙ is_in-filtered (λ u. not (nat_eq u s)) t (get_or rows x [])))
    ∙ sym (pairs_where-but n s (λ x t. is_in t (get_or rows x [])))
