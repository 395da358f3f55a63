-- The waiting actions of a queue, as its callers see them, and the room of its sets.
use Rattle.std.proofs.Common.{◌≡◌, ℕ, zero, suc, ◌+◌, ◌<◌, ◌≤◌, Bool, true, false, not, ◌||◌, nat_eq, cond, List, [], ◌∷◌, ◌++◌, map, take, drop, length, set, All, get_or, replicate, ℤ, Option, None, ◌⊎◌, inl, inr, refl, sym, ◌∙◌, ap, ap₂, subst, arith, add-one, Result, Ok, Err, OnErr}
use Rattle.std.specs.List.{list_any}
use Rattle.std.proofs.lemmas.Bool.{cases_lt, cases_eq, eqb-true, or_cases}
use Rattle.std.proofs.lemmas.List.{get_or_read, get_or-map, length-map, map-set, map_push, length-set, length-replicate, get_or-replicate, get_or-set_same, get_or-set_other, set-get_or, same_lists}
use Rattle.sv_world.specs.declared.action.Action.{Action}
use Rattle.sv_world.specs.Control.{is_in, blank}
use Rattle.sv_eval.proofs.Lists.{all_set}
use Rattle.sv_queue.specs.declared.waiting.WaitingAction.{WaitingAction}
use Rattle.sv_queue.specs.Invariant.{SetHasRoom, HaveRoom, slots_in}
use Rattle.sv_queue.specs.Marks.{queued_of, all_queued, marks_of}
use Rattle.sv_queue.specs.Queue.{Queued, no_entry}
use Rattle.sv_queue.specs.Rooms.{HaveGrown}
use Rattle.sv_queue.specs.Slots.{SlotSet, no_slots, set_with, set_but}
use Rattle.sv_queue.specs.Written.{IsChangedAt}
use Rattle.sv_queue.proofs.Kept.{All-push, All-front}
use Rattle.sv_queue.proofs.Members.{is_in-filtered}
use Rattle.sv_queue.proofs.SlotSets.{in_slots, out_of_slots}

abbrev pub no_waiting : WaitingAction
no_waiting = record { author = record { 0 = 0 }; seq = 0; action = blank; result = None; marks = no_slots }

-- ---- What is read, replaced and added

pub read_queued : (ws : List WaitingAction) (i : ℕ) (w : WaitingAction) → i < length ws → w ≡ get_or ws i w → queued_of w ≡ get_or (all_queued ws) i no_entry
read_queued ws i w low read = ap queued_of (get_or_read ws i w low read no_waiting) ∙ sym (get_or-map queued_of ws i no_waiting no_entry low)

pub read_marks : (ws : List WaitingAction) (i : ℕ) (w : WaitingAction) → i < length ws → w ≡ get_or ws i w → w.marks ≡ get_or (marks_of ws) i no_slots
read_marks ws i w low read = ap (λ (v : WaitingAction). v.marks) (get_or_read ws i w low read no_waiting) ∙ sym (get_or-map (λ (v : WaitingAction). v.marks) ws i no_waiting no_slots low)

pub read_row : (rows : List SlotSet) (i : ℕ) (r : SlotSet) → i < length rows → r ≡ get_or rows i r → r.slots ≡ get_or (slots_in rows) i []
read_row rows i r low read = ap (λ (v : SlotSet). v.slots) (get_or_read rows i r low read no_slots) ∙ sym (get_or-map (λ (v : SlotSet). v.slots) rows i no_slots [] low)

pub queued_count : (ws : List WaitingAction) → length (all_queued ws) ≡ length ws
queued_count ws = length-map ws queued_of

pub rows_count : (rows : List SlotSet) → length (slots_in rows) ≡ length rows
rows_count rows = length-map rows (λ (r : SlotSet). r.slots)

pub queued-set : (ws : List WaitingAction) (i : ℕ) (w : WaitingAction) → all_queued (set ws i w) ≡ set (all_queued ws) i (queued_of w)
queued-set ws i w = map-set queued_of ws i w

pub marks-set : (ws : List WaitingAction) (i : ℕ) (w : WaitingAction) → marks_of (set ws i w) ≡ set (marks_of ws) i w.marks
marks-set ws i w = map-set (λ (v : WaitingAction). v.marks) ws i w

pub rows-set : (rows : List SlotSet) (i : ℕ) (r : SlotSet) → slots_in (set rows i r) ≡ set (slots_in rows) i r.slots
rows-set rows i r = map-set (λ (v : SlotSet). v.slots) rows i r

pub queued-push : (ws : List WaitingAction) (w : WaitingAction) → all_queued (ws ++ w ∷ []) ≡ all_queued ws ++ queued_of w ∷ []
queued-push ws w = map_push queued_of ws w

pub marks-push : (ws : List WaitingAction) (w : WaitingAction) → marks_of (ws ++ w ∷ []) ≡ marks_of ws ++ w.marks ∷ []
marks-push ws w = map_push (λ (v : WaitingAction). v.marks) ws w

pub rows-none : (n : ℕ) → slots_in (replicate n no_slots) ≡ replicate n []
rows-none zero = refl
rows-none (suc n) = ap (λ (rows : List (List ℕ)). [] ∷ rows) (rows-none n)

-- A waiting action whose marks have more room is the same to callers.
pub queued-kept : (ws : List WaitingAction) (i : ℕ) (w : WaitingAction) (r : SlotSet) → i < length ws → w ≡ get_or ws i w → r.slots ≡ w.marks.slots →
    all_queued (set ws i (record w { marks = r })) ≡ all_queued ws
queued-kept ws i w r low read same =
    queued-set ws i (record w { marks = r })
    ∙ ap (set (all_queued ws) i) (ap (λ (ss : List ℕ). record (queued_of w) { marks = ss }) same ∙ read_queued ws i w low read)
    ∙ set-get_or (all_queued ws) i no_entry

-- One that has a result has the marks that it had.
pub marks-same : (ws : List WaitingAction) (i : ℕ) (w : WaitingAction) (result : Option (List (List ℤ))) → i < length ws → w ≡ get_or ws i w →
    marks_of (set ws i (record w { result = result })) ≡ marks_of ws
marks-same ws i w result low read =
    marks-set ws i (record w { result = result }) ∙ ap (set (marks_of ws) i) (read_marks ws i w low read) ∙ set-get_or (marks_of ws) i no_slots

-- ---- Room

pub room_at : (room : ℕ) (sets : List SlotSet) (i : ℕ) (r : SlotSet) → All (SetHasRoom room) sets → i < length sets → r ≡ get_or sets i r → SetHasRoom room r
room_at room sets i r h low read = subst (SetHasRoom room) (sym (get_or_read sets i r low read no_slots)) (h i no_slots low)

pub room_none : (room n : ℕ) → room ≤ 64 → All (SetHasRoom room) (replicate n no_slots)
room_none room n low k d l =
    let e : get_or (replicate n no_slots) k d ≡ no_slots = get_or-replicate n k no_slots d (omega (arith, l, length-replicate n no_slots)) in
    subst (SetHasRoom room) (sym e) (record { enough = low; within = λ s h. cc })

pub room_empty : (room : ℕ) (r : SlotSet) → r.slots ≡ [] → room ≤ r.room → SetHasRoom room r
room_empty room r none enough = record { enough = enough; within = λ s h. (let e : false ≡ true = sym (ap (is_in s) none) ∙ h in cc) }

pub room_with : (room s : ℕ) (r : SlotSet) → SetHasRoom room r → s < room → SetHasRoom room (set_with s r)
room_with room s r h low = record {
  enough = h.enough;
  within = λ t m. go t m (cases_lt t 1024);
}
  where
    go : (t : ℕ) → is_in t (set_with s r).slots ≡ true → (t < 1024) ⊎ (1024 ≤ t) → t < room
    go t m (inl small) = elim (or_cases (nat_eq t s) (is_in t r.slots) (sym (in_slots (λ u. nat_eq u s || is_in u r.slots) t small) ∙ m)) [
      | inl e ↦ (let q : t ≡ s = eqb-true t s e in omega arith)
      | inr e ↦ h.within t e
    ]
    go t m (inr large) = (let e : false ≡ true = sym (out_of_slots (λ u. nat_eq u s || is_in u r.slots) t large) ∙ m in cc)

pub room_but : (room s : ℕ) (r : SlotSet) → SetHasRoom room r → SetHasRoom room (set_but s r)
room_but room s r h = record {
  enough = h.enough;
  within = λ t m. h.within t (left (is_in t r.slots) (not (nat_eq t s)) (sym (is_in-filtered (λ u. not (nat_eq u s)) t r.slots) ∙ m));
}
  where
    left : (a b : Bool) → (Rattle.std.specs.Prelude.◌&&◌ a b) ≡ true → a ≡ true
    left true b e = refl
    left false b e = cc

pub rooms-but : (room s : ℕ) (sets : List SlotSet) → All (SetHasRoom room) sets → All (SetHasRoom room) (map (set_but s) sets)
rooms-but room s sets h k d low =
    let small : k < length sets = omega (arith, low, length-map sets (set_but s)) in
    subst (SetHasRoom room) (sym (get_or-map (set_but s) sets k no_slots d small)) (room_but room s (get_or sets k no_slots) (h k no_slots small))

-- Sets that have grown have the room that they had, or what all of them have.
pub rooms-grown : (room more : ℕ) (old new' : List SlotSet) → HaveGrown old new' → All (SetHasRoom room) old → room ≤ more →
    All (λ (r : SlotSet). more ≤ r.room) new' → All (SetHasRoom more) new'
rooms-grown room more old new' g h low enough k d l =
    let small : k < length old = omega (arith, l, g.count) in
    subst (SetHasRoom more) (default no_slots d new' k l) (record {
      enough = enough k no_slots l;
      within = λ s m. (let within = (h k no_slots small).within s (ap (is_in s) (sym (g.slots k small)) ∙ m) in omega (arith, within, low));
    })
  where
    default : (a b : SlotSet) (xs : List SlotSet) (i : ℕ) → i < length xs → get_or xs i a ≡ get_or xs i b
    default a b [] i low = absurd (omega arith)
    default a b (x ∷ xs) zero low = refl
    default a b (x ∷ xs) (suc i) low = default a b xs i (omega arith)

pub rooms-kept : (room : ℕ) (old new' : List SlotSet) → HaveGrown old new' → All (SetHasRoom room) old → All (SetHasRoom room) new'
rooms-kept room old new' g h k d l =
    let small : k < length old = omega (arith, l, g.count) in
    subst (SetHasRoom room) (default no_slots d new' k l) (record {
      enough = (let a = (h k no_slots small).enough in let b = g.room k small in omega (arith, a, b));
      within = λ s m. (h k no_slots small).within s (ap (is_in s) (sym (g.slots k small)) ∙ m);
    })
  where
    default : (a b : SlotSet) (xs : List SlotSet) (i : ℕ) → i < length xs → get_or xs i a ≡ get_or xs i b
    default a b [] i low = absurd (omega arith)
    default a b (x ∷ xs) zero low = refl
    default a b (x ∷ xs) (suc i) low = default a b xs i (omega arith)

pub slots-grown : (old new' : List SlotSet) → HaveGrown old new' → slots_in new' ≡ slots_in old
slots-grown old new' g = same_lists (slots_in new') (slots_in old) (rows_count new' ∙ g.count ∙ sym (rows_count old)) (λ k d low.
    (let l : k < length new' = omega (arith, low, rows_count new') in
    let m : k < length old = omega (arith, l, g.count) in
    get_or-map (λ (r : SlotSet). r.slots) new' k no_slots d l ∙ g.slots k m ∙ sym (get_or-map (λ (r : SlotSet). r.slots) old k no_slots d m)))

pub grown-same : (sets : List SlotSet) → HaveGrown sets sets
grown-same sets = record { count = refl; slots = λ i low. refl; room = λ i low. omega arith }

-- One more set has grown.
pub grown-set : (old now : List SlotSet) (i : ℕ) (r : SlotSet) → HaveGrown old now → i < length old →
    r.slots ≡ (get_or now i no_slots).slots → (get_or now i no_slots).room ≤ r.room → HaveGrown old (set now i r)
grown-set old now i r g low same more = record {
  count = length-set now i r ∙ g.count;
  slots = λ k small. slots k small (cases_eq k i);
  room = λ k small. room k small (cases_eq k i);
}
  where
    within : i < length now
    within = omega (arith, low, g.count)

    slots : (k : ℕ) → k < length old → (k ≡ i) ⊎ (k ≡ i → ⊥) → (get_or (set now i r) k no_slots).slots ≡ (get_or old k no_slots).slots
    slots k small (inl e) = ap (λ m. (get_or (set now i r) m no_slots).slots) e ∙ ap (λ (s : SlotSet). s.slots) (get_or-set_same now i r no_slots within) ∙ same ∙ g.slots i low ∙ ap (λ m. (get_or old m no_slots).slots) (sym e)
    slots k small (inr ne) = ap (λ (s : SlotSet). s.slots) (get_or-set_other now i k r no_slots ne) ∙ g.slots k small

    room : (k : ℕ) → k < length old → (k ≡ i) ⊎ (k ≡ i → ⊥) → (get_or old k no_slots).room ≤ (get_or (set now i r) k no_slots).room
    room k small (inl e) =
        let here : (get_or (set now i r) k no_slots).room ≡ r.room = ap (λ m. (get_or (set now i r) m no_slots).room) e ∙ ap (λ (s : SlotSet). s.room) (get_or-set_same now i r no_slots within) in
        let old' : (get_or old k no_slots).room ≡ (get_or old i no_slots).room = ap (λ m. (get_or old m no_slots).room) e in
        let before = g.room i low in omega (arith, here, old', before, more)
    room k small (inr ne) =
        let here : (get_or (set now i r) k no_slots).room ≡ (get_or now k no_slots).room = ap (λ (s : SlotSet). s.room) (get_or-set_other now i k r no_slots ne) in
        let before = g.room k small in omega (arith, here, before)

-- The first i + 1 of them have so much room.
pub room-next : (now : List SlotSet) (i n : ℕ) (r : SlotSet) → i < length now → ((k : ℕ) → k < i → n ≤ (get_or now k no_slots).room) → n ≤ r.room →
    (k : ℕ) → k < i + 1 → n ≤ (get_or (set now i r) k no_slots).room
room-next now i n r within h more k low = go (cases_eq k i)
  where
    go : (k ≡ i) ⊎ (k ≡ i → ⊥) → n ≤ (get_or (set now i r) k no_slots).room
    go (inl e) = let here : (get_or (set now i r) k no_slots).room ≡ r.room = ap (λ m. (get_or (set now i r) m no_slots).room) e ∙ ap (λ (s : SlotSet). s.room) (get_or-set_same now i r no_slots within) in
        omega (arith, here, more)
    go (inr ne) = let here : (get_or (set now i r) k no_slots).room ≡ (get_or now k no_slots).room = ap (λ (s : SlotSet). s.room) (get_or-set_other now i k r no_slots ne) in
        let before = h k (omega (arith, low, ne)) in omega (arith, here, before)

-- All elements so far are what a function makes of them.
mapped_suc : {X : Type 0} (f : X → X) (nothing : X) (xs : List X) (i : ℕ) → i < length xs →
    set (map f (take i xs) ++ drop i xs) i (f (get_or xs i nothing)) ≡ map f (take (suc i) xs) ++ drop (suc i) xs
mapped_suc f nothing [] i low = absurd (omega arith)
mapped_suc f nothing (x ∷ xs) zero low = refl
mapped_suc f nothing (x ∷ xs) (suc i) low = ap (λ ys. f x ∷ ys) (mapped_suc f nothing xs i (omega arith))

pub mapped-next : {X : Type 0} (f : X → X) (nothing : X) (xs : List X) (i : ℕ) → i < length xs →
    set (map f (take i xs) ++ drop i xs) i (f (get_or xs i nothing)) ≡ map f (take (i + 1) xs) ++ drop (i + 1) xs
mapped-next f nothing xs i low = rw add-one (mapped_suc f nothing xs i low)

pub left-at : {X : Type 0} (f : X → X) (nothing : X) (xs : List X) (i : ℕ) → i < length xs → get_or (map f (take i xs) ++ drop i xs) i nothing ≡ get_or xs i nothing
left-at f nothing [] i low = absurd (omega arith)
left-at f nothing (x ∷ xs) zero low = refl
left-at f nothing (x ∷ xs) (suc i) low = left-at f nothing xs i (omega arith)

pub mapped_count : {X : Type 0} (f : X → X) (xs : List X) (i : ℕ) → length (map f (take i xs) ++ drop i xs) ≡ length xs
mapped_count f [] zero = refl
mapped_count f [] (suc i) = refl
mapped_count f (x ∷ xs) zero = ap suc (mapped_count f xs zero)
mapped_count f (x ∷ xs) (suc i) = ap suc (mapped_count f xs i)

pub mapped_all : {X : Type 0} (f : X → X) (xs : List X) (i : ℕ) → length xs ≤ i → map f (take i xs) ++ drop i xs ≡ map f xs
mapped_all f [] zero low = refl
mapped_all f [] (suc i) low = refl
mapped_all f (x ∷ xs) zero low = absurd (omega arith)
mapped_all f (x ∷ xs) (suc i) low = ap (λ ys. f x ∷ ys) (mapped_all f xs i (omega arith))

-- ---- Rows that are replaced

pub rows-given : (places : List ℕ) (rows next : List SlotSet) (slots : List ℕ) →
    IsChangedAt no_slots (λ (r : SlotSet). record r { slots = slots }) places rows next → IsChangedAt [] (λ _. slots) places (slots_in rows) (slots_in next)
rows-given places rows next slots h = record {
  count = rows_count next ∙ h.count ∙ sym (rows_count rows);
  elements = λ x low.
      (let l : x < length rows = omega (arith, low, rows_count rows) in
      get_or-map (λ (r : SlotSet). r.slots) next x no_slots [] (omega (arith, l, h.count))
      ∙ ap (λ (r : SlotSet). r.slots) (h.elements x l) ∙ go (is_in x places) (get_or rows x no_slots)
      ∙ ap (λ (ss : List ℕ). cond (is_in x places) slots ss) (sym (get_or-map (λ (r : SlotSet). r.slots) rows x no_slots [] l)));
}
  where
    go : (b : Bool) (r : SlotSet) → (cond b (record r { slots = slots }) r).slots ≡ cond b slots r.slots
    go true r = refl
    go false r = refl

pub rooms-given : (room : ℕ) (places : List ℕ) (rows next : List SlotSet) (m : SlotSet) →
    IsChangedAt no_slots (λ (r : SlotSet). record r { slots = m.slots }) places rows next → All (SetHasRoom room) rows → SetHasRoom room m → All (SetHasRoom room) next
rooms-given room places rows next m h rooms has k d low =
    let l : k < length rows = omega (arith, low, h.count) in
    let e : get_or next k d ≡ get_or next k no_slots = default next k low in
    subst (SetHasRoom room) (sym (e ∙ h.elements k l)) (go (is_in k places) (get_or rows k no_slots) (rooms k no_slots l))
  where
    default : (xs : List SlotSet) (i : ℕ) → i < length xs → get_or xs i d ≡ get_or xs i no_slots
    default [] i low = absurd (omega arith)
    default (x ∷ xs) zero low = refl
    default (x ∷ xs) (suc i) low = default xs i (omega arith)

    go : (b : Bool) (r : SlotSet) → SetHasRoom room r → SetHasRoom room (cond b (record r { slots = m.slots }) r)
    go true r g = record { enough = g.enough; within = has.within }
    go false r g = g

-- No set of a queue has a slot from 1,024 on.
pub room_out : (room s : ℕ) (r : SlotSet) → room ≤ 1024 → SetHasRoom room r → 1024 ≤ s → is_in s r.slots ≡ false
room_out room s r low h high = go (is_in s r.slots) refl
  where
    go : (b : Bool) → is_in s r.slots ≡ b → b ≡ false
    go true e = let l = h.within s e in absurd (omega arith)
    go false e = refl

-- A set that was replaced at places has the room that it had.
pub row_room : (places : List ℕ) (rows now : List SlotSet) (x : ℕ) (slots : List ℕ) →
    IsChangedAt no_slots (λ (r : SlotSet). record r { slots = slots }) places rows now → x < length rows → (get_or now x no_slots).room ≡ (get_or rows x no_slots).room
row_room places rows now x slots h low = ap (λ (r : SlotSet). r.room) (h.elements x low) ∙ go (is_in x places) (get_or rows x no_slots)
  where
    go : (b : Bool) (r : SlotSet) → (cond b (record r { slots = slots }) r).room ≡ r.room
    go true r = refl
    go false r = refl

pub any-ext : (p q : ℕ → Bool) (xs : List ℕ) → ((s : ℕ) → p s ≡ q s) → list_any p xs ≡ list_any q xs
any-ext p q [] h = refl
any-ext p q (x ∷ xs) h = ap₂ (λ a b. a || b) (h x) (any-ext p q xs h)

pub on_err : {X E : Type 0} {P : Type 0} (r : Result X E) → P → OnErr r P
on_err (Ok x) p = tt
on_err (Err e) p = p
