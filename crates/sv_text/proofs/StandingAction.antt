-- The canonical text of an action is a text of it.
use Rattle.std.proofs.Common.{◌≡◌, ℕ, zero, suc, ◌+◌, ◌*◌, ◌/◌, ◌%◌, ◌^◌, ◌<◌, ◌≤◌, inl, inr, Bool, true, false, cond, ◌&&◌, eqb, ltb, ℤ, pos, negsuc, int_le, List, [], ◌∷◌, ◌++◌, length, Some, Result, Ok, Err, refl, sym, ap, subst, ◌∙◌, arith, append_assoc, bit_or, decimal}
use Rattle.std.specs.Prelude.{codes, IfOk}
use Rattle.std.specs.Fmt.{signed_decimal}
use Rattle.std.specs.List.{AllByRecursion}
use Rattle.std.proofs.Math.Nat.{pow-succ'}
use Rattle.std.proofs.lemmas.Bool.{and_parts, and_from, cond_both, leb-true, le-leb, ltb-true, eq-eqb, ne_eqb, eqb-true}
use Rattle.std.proofs.lemmas.List.{append-nil}
use Rattle.std.proofs.lemmas.Nat.{or_comm, or_shifted}
use Rattle.sv_world.specs.Sets.{numbers_of}
use Rattle.sv_world.specs.Faults.{is_ascending, has_slots, is_in_plane, has_origin}
use Rattle.sv_world.specs.Trees.{body_nodes}
use Rattle.sv_world.specs.declared.world.ObjectId.{ObjectId}
use Rattle.sv_world.specs.declared.action.Point.{Point}
use Rattle.sv_world.specs.declared.action.Action.{Action}
use Rattle.sv_text.specs.declared.token.Mark.TheVariants as marks
use Rattle.sv_text.specs.declared.token.Token.TheVariants as tokens
use Rattle.sv_text.specs.declared.token.Lexeme.{Lexeme}
use Rattle.sv_text.specs.Tokens.{tokens_from, tokens_of, word_of, token_at, word_at, is_joint}
use Rattle.sv_text.specs.Reading.{front, rest_of, slot_from, reading}
use Rattle.sv_text.specs.Grammar.{Place, IsMark, IsWord, IsObject, IsAscending, IsMask, AreAll, IsCoordinate, MayBeOrigin, IsBlock, IsStmt, IsActionText}
use Rattle.sv_text.specs.Canonical.{object_in, spaced_objects, written, origin_text, body_text, canonical}
use Rattle.sv_world.specs.Ranges.{is_i64, body_fits, is_zero, ObjectFits}
use Rattle.std.proofs.lemmas.List.Elements.{recursion_from_All}
use Rattle.std.specs.Prelude.{All}
use Rattle.sv_text.specs.Printable.{IsWithinGrammar, IsPrintable}
use Rattle.sv_text.proofs.AgainAction.{action_again}
use Rattle.sv_text.proofs.Found.{ok_is}
use Rattle.sv_text.proofs.Spelled.{toks, lexeme, Stops, spelled, spaced_stands, number_stands}
use Rattle.sv_text.proofs.Standing.{front_alone, blank_at, number_from, HasSlots}
use Rattle.sv_text.proofs.StandingBody.{block_stands, all_stand}

-- ---- objects and their slots

above : (r : ObjectId) (rs : List ObjectId) (k : ℕ) → is_ascending (numbers_of (r ∷ rs)) ≡ true → k < length rs → r.0 < object_in rs k
above r [] k up lt = absurd (omega arith)
above r (s ∷ ss) zero up lt = ltb-true r.0 s.0 (and_parts (ltb r.0 s.0) (is_ascending (numbers_of (s ∷ ss))) up).0
above r (s ∷ ss) (suc k) up lt =
    let parts = and_parts (ltb r.0 s.0) (is_ascending (numbers_of (s ∷ ss))) up in
    omega (arith, ltb-true r.0 s.0 parts.0, above s ss k parts.1 (omega arith))

rest_up : (r : ObjectId) (rs : List ObjectId) → is_ascending (numbers_of (r ∷ rs)) ≡ true → is_ascending (numbers_of rs) ≡ true
rest_up r [] up = refl
rest_up r (s ∷ ss) up = (and_parts (ltb r.0 s.0) (is_ascending (numbers_of (s ∷ ss))) up).1

-- Each object of an ascending list is found at its own place.
own_slot : (reads : List ObjectId) (j k : ℕ) → is_ascending (numbers_of reads) ≡ true → k < length reads → slot_from j reads (object_in reads k) ≡ Some (j + k)
own_slot [] j k up lt = absurd (omega arith)
own_slot (r ∷ rs) j zero up lt =
    let e : j ≡ j + 0 = omega arith in
    ap (λ (b : Bool). cond b (Some j) (slot_from (j + 1) rs r.0)) (eq-eqb r.0 r.0 refl) ∙ ap Some e
own_slot (r ∷ rs) j (suc k) up lt =
    let more : r.0 < object_in rs k = above r rs k up (omega arith) in
    let e : j + 1 + k ≡ j + suc k = omega arith in
    ap (λ (b : Bool). cond b (Some j) (slot_from (j + 1) rs (object_in rs k))) (ne_eqb r.0 (object_in rs k) (λ s. omega arith))
    ∙ own_slot rs (j + 1) k (rest_up r rs up) (omega arith) ∙ ap Some e

object_low : (reads : List ObjectId) → AllByRecursion ObjectFits reads → (k : ℕ) → k < length reads → object_in reads k < 65536
object_low [] fits k lt = absurd (omega arith)
object_low (r ∷ rs) fits zero lt = fits.0
object_low (r ∷ rs) fits (suc k) lt = object_low rs fits.1 k (omega arith)

has_own : (reads : List ObjectId) → AllByRecursion ObjectFits reads → is_ascending (numbers_of reads) ≡ true → HasSlots reads
has_own reads fits up k lt = (object_low reads fits k lt, own_slot reads 0 k up lt ∙ (let e : 0 + k ≡ k = omega arith in ap Some e))

ascends : (reads : List ObjectId) (least : ℕ) → is_ascending (numbers_of reads) ≡ true → ((r : ObjectId) (rs : List ObjectId) → reads ≡ r ∷ rs → least ≤ r.0) → IsAscending least reads
ascends [] least up low = tt
ascends (r ∷ []) least up low = (low r [] refl, tt)
ascends (r ∷ s ∷ ss) least up low =
    let next : r.0 < s.0 = ltb-true r.0 s.0 (and_parts (ltb r.0 s.0) (is_ascending (numbers_of (s ∷ ss))) up).0 in
    (low r (s ∷ ss) refl, ascends (s ∷ ss) (r.0 + 1) (rest_up r (s ∷ ss) up) (λ q qs e. subst (λ (l : List ObjectId). r.0 + 1 ≤ object_in l 0) e (omega arith)))

-- ---- the written objects

ascends_from : (os : List ObjectId) (low least : ℕ) → low ≤ least → IsAscending least os → IsAscending low os
ascends_from [] low least le up = tt
ascends_from (o ∷ os) low least le up = (let a : least ≤ o.0 = up.0 in omega arith, up.1)

written_ascends : (reads : List ObjectId) (mask least : ℕ) → IsAscending least reads → IsAscending least (written reads mask)
written_ascends [] mask least up = tt
written_ascends (r ∷ rs) mask least up =
    let more = written_ascends rs (mask / 2) (r.0 + 1) up.1 in
    elim (eqb (mask % 2) 1) as (λ b. IsAscending least (cond b (r ∷ written rs (mask / 2)) (written rs (mask / 2)))) [
      | true ↦ (up.0, more)
      | false ↦ ascends_from (written rs (mask / 2)) least (r.0 + 1) (let a : least ≤ r.0 = up.0 in omega arith) more
    ]

pub written_fits : (reads : List ObjectId) (mask : ℕ) → AllByRecursion ObjectFits reads → AllByRecursion ObjectFits (written reads mask)
written_fits [] mask fits = tt
written_fits (r ∷ rs) mask fits =
    let more = written_fits rs (mask / 2) fits.1 in
    elim (eqb (mask % 2) 1) as (λ b. AllByRecursion ObjectFits (cond b (r ∷ written rs (mask / 2)) (written rs (mask / 2)))) [
      | true ↦ (fits.0, more)
      | false ↦ more
    ]

-- a higher bit beside lower ones
bit_beside : (before k : ℕ) → before < 2 ^ k → bit_or before (2 ^ k) ≡ before + 2 ^ k
bit_beside before k low =
    let one : 1 * 2 ^ k ≡ 2 ^ k = omega arith in
    or_comm before (2 ^ k) ∙ ap (λ (p : ℕ). bit_or p before) (sym one) ∙ or_shifted 1 k before low ∙ (let e : 1 * 2 ^ k + before ≡ before + 2 ^ k = omega arith in e)

odd_total : (before mask p : ℕ) → mask % 2 ≡ 1 → before + p + mask / 2 * (2 * p) ≡ before + mask * p
odd_total before mask p odd =
    let h = mask / 2 in
    let whole : 2 * h + 1 ≡ mask = omega arith in
    let out : before + p + h * (2 * p) ≡ before + (2 * h + 1) * p = omega arith in
    out ∙ ap (λ (m : ℕ). before + m * p) whole

even_total : (before mask p : ℕ) → mask % 2 ≡ 0 → before + mask / 2 * (2 * p) ≡ before + mask * p
even_total before mask p even =
    let h = mask / 2 in
    let whole : 2 * h ≡ mask = omega arith in
    let out : before + h * (2 * p) ≡ before + 2 * h * p = omega arith in
    out ∙ ap (λ (m : ℕ). before + m * p) whole

even_is : (m : ℕ) → eqb (m % 2) 1 ≡ false → m % 2 ≡ 0
even_is m e = let not_one : m % 2 ≡ 1 → ⊥ = λ h. (let t = eq-eqb (m % 2) 1 h in cc) in omega arith

bits_are : (all reads : List ObjectId) (k before mask : ℕ) → ((j : ℕ) → j < length reads → slot_from 0 all (object_in reads j) ≡ Some (k + j)) → before < 2 ^ k → mask < 2 ^ length reads
    → IsMask all before (written reads mask) (before + mask * 2 ^ k)
bits_are all [] k before mask slots low small =
    let none : mask ≡ 0 = omega arith in
    let e : before ≡ before + 0 * 2 ^ k = omega arith in
    e ∙ ap (λ (m : ℕ). before + m * 2 ^ k) (sym none)
bits_are all (r ∷ rs) k before mask slots low small =
    let half = mask / 2 in
    let p = 2 ^ k in
    let twice : 2 ^ suc k ≡ 2 * p = pow-succ' 2 k in
    let more_small : mask < 2 * 2 ^ length rs = subst (λ (n : ℕ). mask < n) (pow-succ' 2 (length rs)) small in
    let half_small : half < 2 ^ length rs = omega arith in
    let later : (j : ℕ) → j < length rs → slot_from 0 all (object_in rs j) ≡ Some (suc k + j) = λ j lt. (slots (suc j) (omega arith) ∙ (let e : k + suc j ≡ suc k + j = omega arith in ap Some e)) in
    let here : slot_from 0 all r.0 ≡ Some k = slots 0 (omega arith) ∙ (let e : k + 0 ≡ k = omega arith in ap Some e) in
    cond_both (eqb (mask % 2) 1) (r ∷ written rs half) (written rs half) (λ (os : List ObjectId). IsMask all before os (before + mask * p))
    (λ odd.
    let sum : bit_or before p ≡ before + p = bit_beside before k low in
    let less : bit_or before p < 2 ^ suc k = omega arith in
    let total : bit_or before p + half * 2 ^ suc k ≡ before + mask * p = ap (λ (n : ℕ). n + half * 2 ^ suc k) sum ∙ ap (λ (n : ℕ). before + p + half * n) twice ∙ odd_total before mask p (eqb-true (mask % 2) 1 odd) in
    (k, here, subst (λ (n : ℕ). IsMask all (bit_or before p) (written rs half) n) total (bits_are all rs (suc k) (bit_or before p) half later less half_small)))
    (λ even.
    let less : before < 2 ^ suc k = omega arith in
    let total : before + half * 2 ^ suc k ≡ before + mask * p = ap (λ (n : ℕ). before + half * n) twice ∙ even_total before mask p (even_is mask even) in
    subst (λ (n : ℕ). IsMask all before (written rs half) n) total (bits_are all rs (suc k) before half later less half_small))

-- ---- what stands before the body

abbrev Blank : List ℕ → Type 0
Blank l = (rest : List ℕ) × (l ≡ 32 ∷ rest)

blank_stops : (l : List ℕ) → Blank l → Stops l
blank_stops l b = subst (λ (k : List ℕ). Stops k) (sym b.1) refl

objects_begin : (os : List ObjectId) (l : List ℕ) → Blank l → Blank (spaced_objects os ++ l)
objects_begin [] l b = b
objects_begin (o ∷ os) l b = (decimal o.0 ++ spaced_objects os ++ l, refl)

small_number : (n : ℕ) → n < 65536 → is_i64 (pos n) ≡ true
small_number n low = le-leb n 9223372036854775807 (omega arith)

objects_stand : (os : List ObjectId) → AllByRecursion ObjectFits os → (place : ℕ) (glued : Bool) (rest : List ℕ) → Blank rest → (next : ℕ) × (g : Bool) × AreAll IsObject os (toks place glued (spaced_objects os ++ rest)) (toks next g rest)
objects_stand [] fits place glued rest b = (place, glued, refl)
objects_stand (o ∷ os) fits place glued rest b =
    let t = decimal o.0 in
    let more = spaced_objects os ++ rest in
    let n = number_stands (pos o.0) more (small_number o.0 fits.0) (blank_stops more (objects_begin os rest b)) (place + 1) false in
    let later = objects_stand os fits.1 (place + 1 + length t) true rest b in
    let begin : toks place glued (spaced_objects (o ∷ os) ++ rest) ≡ toks (place + 1) false (t ++ more) = ap (λ (s : List ℕ). toks place glued (32 ∷ s)) (append_assoc t (spaced_objects os) rest) ∙ blank_at place glued (t ++ more) in
    let between = toks (place + 1 + length t) true more in
    (later.0, later.1, (between, (fits.0, number_from (pos o.0) (place + 1) (toks place glued (spaced_objects (o ∷ os) ++ rest)) between (begin ∙ n)), later.2))

-- a word before a space that is looked at again
reads_there : (place : ℕ) (rest : List ℕ) → IsWord marks.Reads (toks place false (spelled marks.Reads ++ (32 ∷ rest))) (toks (place + 1 + 1 + 1 + 1 + 1) true (32 ∷ rest))
unfolding tokens_from token_at word_at word_of is_joint front
reads_there place rest = (refl, refl)

reads_word : (place : ℕ) (l : List ℕ) → Blank l → (next : ℕ) × IsWord marks.Reads (toks place false (spelled marks.Reads ++ l)) (toks next true l)
reads_word place l b =
    (place + 1 + 1 + 1 + 1 + 1, subst (λ (k : List ℕ). IsWord marks.Reads (toks place false (spelled marks.Reads ++ k)) (toks (place + 1 + 1 + 1 + 1 + 1) true k)) (sym b.1) (reads_there place b.0))

writes_there : (place : ℕ) (glued : Bool) (rest : List ℕ) → IsWord marks.Writes (toks place glued (32 ∷ (spelled marks.Writes ++ (32 ∷ rest)))) (toks (place + 1 + 1 + 1 + 1 + 1 + 1 + 1) true (32 ∷ rest))
unfolding tokens_from token_at word_at word_of is_joint front
writes_there place glued rest = (refl, refl)

writes_word : (place : ℕ) (glued : Bool) (l : List ℕ) → Blank l → (next : ℕ) × IsWord marks.Writes (toks place glued (32 ∷ (spelled marks.Writes ++ l))) (toks next true l)
writes_word place glued l b =
    (place + 1 + 1 + 1 + 1 + 1 + 1 + 1, subst (λ (k : List ℕ). IsWord marks.Writes (toks place glued (32 ∷ (spelled marks.Writes ++ k))) (toks (place + 1 + 1 + 1 + 1 + 1 + 1 + 1) true k)) (sym b.1) (writes_there place glued b.0))

-- ---- the origin

is_none : (z : ℤ) → is_zero z ≡ true → z ≡ pos 0
is_none (pos zero) h = refl
is_none (pos (suc n)) h = absurd cc
is_none (negsuc n) h = absurd cc

plane_fits : (z : ℤ) → is_in_plane z ≡ true → is_i64 z ≡ true
plane_fits (pos n) h = le-leb n 9223372036854775807 (omega (arith, leb-true n 1000000 h))
plane_fits (negsuc n) h = and_from (int_le (negsuc 9223372036854775807) (negsuc n)) true (le-leb n 9223372036854775807 (omega (arith, leb-true n 999999 (and_parts (int_le (negsuc 999999) (negsuc n)) true h).0))) refl

-- a coordinate before a space, which is skipped
coordinate_stands : (z : ℤ) → is_in_plane z ≡ true → (place : ℕ) (rest : List ℕ) → (next : ℕ) × IsCoordinate z (toks place false (signed_decimal z ++ (32 ∷ rest))) (toks next false rest)
coordinate_stands z plane place rest =
    let parts = and_parts (int_le (negsuc 999999) z) (int_le z (pos 1000000)) plane in
    let t = signed_decimal z in
    let n = number_stands z (32 ∷ rest) (plane_fits z plane) refl place false in
    let end = toks (place + length t + 1) false rest in
    (place + length t + 1, (parts.0, parts.1, number_from z place (toks place false (t ++ (32 ∷ rest))) end (n ∙ ap (λ (k : List Lexeme). lexeme place false (tokens.Number z) ∷ k) (blank_at (place + length t) true rest))))

at_word : (place : ℕ) (glued : Bool) (rest : List ℕ) → (next : ℕ) × IsWord marks.At (toks place glued (32 ∷ (spelled marks.At ++ (32 ∷ rest)))) (toks next false rest)
at_word place glued rest =
    let s = spaced_stands marks.At (omega arith) (place + 1) false rest in
    let e = blank_at place glued (spelled marks.At ++ (32 ∷ rest)) ∙ s.1 in
    (s.0, (ap front e ∙ front_alone marks.At (place + 1) (toks s.0 false rest), ap rest_of e))

origin_begins : (p : Point) (l : List ℕ) → Blank l → Blank (origin_text p ++ l)
origin_begins p l b = cond_both (is_zero p.x && is_zero p.y) [] (codes " at " ++ signed_decimal p.x ++ codes " " ++ signed_decimal p.y) (λ (t : List ℕ). Blank (t ++ l)) (λ _. b) (λ _. (codes "at " ++ signed_decimal p.x ++ codes " " ++ signed_decimal p.y ++ l, refl))

origin_stands : (p : Point) → is_in_plane p.x ≡ true → is_in_plane p.y ≡ true → (place : ℕ) (glued : Bool) (rest : List ℕ) → (next : ℕ) × MayBeOrigin p (toks place glued (origin_text p ++ (32 ∷ rest))) (toks next false rest)
origin_stands p px py place glued rest =
    let x = signed_decimal p.x in
    let y = signed_decimal p.y in
    let there = codes " at " ++ x ++ codes " " ++ y in
    cond_both (is_zero p.x && is_zero p.y) [] there (λ (t : List ℕ). (next : ℕ) × MayBeOrigin p (toks place glued (t ++ (32 ∷ rest))) (toks next false rest))
    (λ none.
    let both = and_parts (is_zero p.x) (is_zero p.y) none in
    (place + 1, inr (is_none p.x both.0, is_none p.y both.1, blank_at place glued rest)))
    (λ some.
    let second = y ++ (32 ∷ rest) in
    let first = x ++ (32 ∷ second) in
    let regrouped : there ++ (32 ∷ rest) ≡ 32 ∷ (spelled marks.At ++ (32 ∷ first)) = ap (λ (t : List ℕ). 32 ∷ (spelled marks.At ++ (32 ∷ t))) (append_assoc (x ++ (32 ∷ [])) y (32 ∷ rest) ∙ append_assoc x (32 ∷ []) second) in
    let w = at_word place glued first in
    let cx = coordinate_stands p.x px w.0 second in
    let cy = coordinate_stands p.y py cx.0 rest in
    let end = toks cy.0 false rest in (
      cy.0,
      subst (λ (t : List ℕ). MayBeOrigin p (toks place glued t) end) (sym regrouped) (inl (record {
        one = toks w.0 false first;
        two = toks cx.0 false second;
        word = w.1;
        x = cx.1;
        y = cy.1;
      })),
    ))

-- ---- the whole

end_stands : (n place : ℕ) → IsMark marks.End (n, toks place false []) (n, [])
unfolding tokens_from front
end_stands n place = (refl, refl)

canonical_parts : (a : Action) → canonical a ≡ spelled marks.Reads ++ (spaced_objects a.reads ++ (32 ∷ (spelled marks.Writes ++ (spaced_objects (written a.reads a.mask) ++ (origin_text a.origin ++ (32 ∷ body_text a.reads a.body))))))
unfolding canonical
canonical_parts a =
    let r = spaced_objects a.reads in
    let w = spaced_objects (written a.reads a.mask) in
    let o = origin_text a.origin in
    let b = body_text a.reads a.body in
    let last = 32 ∷ b in
    ap (λ (t : List ℕ). spelled marks.Reads ++ t)
    (append_assoc (r ++ codes " writes" ++ w ++ o) (32 ∷ []) b ∙ append_assoc (r ++ codes " writes" ++ w) o last ∙ append_assoc (r ++ codes " writes") w (o ++ last) ∙ append_assoc r (codes " writes") (w ++ (o ++ last)))

-- the bits from the first slot on
mask_stands : (reads : List ObjectId) (mask : ℕ) → HasSlots reads → mask < 2 ^ length reads → IsMask reads 0 (written reads mask) mask
mask_stands reads mask own small =
    let e : 0 + mask * 2 ^ 0 ≡ mask = omega arith in
    subst (λ (n : ℕ). IsMask reads 0 (written reads mask) n) e (bits_are reads reads 0 0 mask (λ j lt. (own j lt).1 ∙ (let z : j ≡ 0 + j = omega arith in ap Some z)) (omega arith) small)

pub canonical_stands : (a : Action) → IsPrintable a → IsActionText a (tokens_of (canonical a))
unfolding tokens_of has_slots has_origin
canonical_stands a p =
    let r = spaced_objects a.reads in
    let objects = written a.reads a.mask in
    let w = spaced_objects objects in
    let o = origin_text a.origin in
    let b = body_text a.reads a.body in
    let third = 32 ∷ b in
    let second = o ++ third in
    let first = w ++ second in
    let own = has_own a.reads p.objects p.within.ascending in
    let plane = and_parts (is_in_plane a.origin.x) (is_in_plane a.origin.y) p.within.origin in
    let blank_three : Blank third = (b, refl) in
    let blank_two : Blank second = origin_begins a.origin third blank_three in
    let blank_one : Blank first = objects_begin objects second blank_two in
    let behind = 32 ∷ (spelled marks.Writes ++ first) in
    let blank_zero : Blank behind = (spelled marks.Writes ++ first, refl) in
    let start = reads_word 0 (r ++ behind) (objects_begin a.reads behind blank_zero) in
    let os = objects_stand a.reads p.objects start.0 true behind blank_zero in
    let word = writes_word os.0 os.1 first blank_one in
    let ws = objects_stand objects (written_fits a.reads a.mask p.objects) word.0 true second blank_two in
    let origin = origin_stands a.origin plane.0 plane.1 ws.0 ws.1 b in
    let body = block_stands a.reads a.body (all_stand a.reads own a.body) 8 0 origin.0 false [] p.numbers p.within.slots p.within.shallow (let few : 0 + body_nodes a.body ≤ 64 = omega (arith, p.within.few_nodes) in few) in
    let up : IsAscending 0 a.reads = ascends a.reads 0 p.within.ascending (λ _ _ _. omega arith) in
    let nodes = 0 + body_nodes a.body in
    let four : Place = (nodes, toks body.0 false []) in
    let block : IsBlock (IsStmt a.reads 8) a.body (0, toks origin.0 false b) four = subst (λ (t : List ℕ). IsBlock (IsStmt a.reads 8) a.body (0, toks origin.0 false t) four) (append-nil b) body.1 in
    let there : IsActionText a (toks 0 false (spelled marks.Reads ++ (r ++ behind))) = record {
      one = toks word.0 true first;
      two = toks ws.0 ws.1 second;
      three = toks origin.0 false b;
      four = four;
      five = (nodes, []);
      reads = record {
        one = toks start.0 true (r ++ behind);
        two = toks os.0 os.1 behind;
        word = start.1;
        objects = os.2;
        behind = word.1;
        ascending = up;
        some = p.within.some_reads;
        few = p.within.few_reads;
      };
      writes = record {
        objects = objects;
        here = ws.2;
        ascending = written_ascends a.reads a.mask 0 up;
        bits = mask_stands a.reads a.mask own p.within.mask;
      };
      origin = origin.1;
      body = block;
      end = end_stands nodes body.0;
    } in
    subst (λ (t : List ℕ). IsActionText a (toks 0 false t)) (sym (canonical_parts a)) there

pub canonical_again : (a : Action) → IsPrintable a → reading (tokens_of (canonical a)) ≡ Ok a
canonical_again a p = action_again a (tokens_of (canonical a)) (canonical_stands a p)

-- another name of the canonical text
pub printed_again : (a : Action) (text : List ℕ) → text ≡ canonical a → IsPrintable a → reading (tokens_of text) ≡ Ok a
printed_again a text is p = subst (λ (t : List ℕ). reading (tokens_of t) ≡ Ok a) (sym is) (canonical_again a p)

pub canonical_injective : (a b : Action) → IsPrintable a → IsPrintable b → canonical a ≡ canonical b → a ≡ b
canonical_injective a b p q e = ok_is a b (sym (canonical_again a p) ∙ printed_again b (canonical a) e q)

pub again_if_ok : {S E : Type 0} (bytes : S → List ℕ) (a : Action) (r : Result S E) → All ObjectFits a.reads → body_fits a.body ≡ true → IfOk r (λ t. bytes t ≡ canonical a)
    → IfOk r (λ t. IsWithinGrammar a → reading (tokens_of (bytes t)) ≡ Ok a)
again_if_ok bytes a (Ok t) objects numbers given = λ p. printed_again a (bytes t) given (record { within = p; objects = recursion_from_All ObjectFits a.reads objects; numbers = numbers })
again_if_ok bytes a (Err e) objects numbers given = tt
