-- How long tokens are, and what stands ahead of the bytes.
use Rattle.std.proofs.Common.{◌≡◌, ℕ, zero, suc, ◌+◌, ◌-◌, ◌<◌, ◌≤◌, Bool, true, false, ◌&&◌, List, [], ◌∷◌, length, drop, get_or, eqb, refl, sym, ap, subst, ◌∙◌, inl, inr, arith, drop-drop}
use Rattle.std.specs.List.{prefix_len}
use Rattle.std.specs.Char.{is_ascii_digit, is_ascii_lowercase}
use Rattle.std.proofs.lemmas.Bool.{cases_lt, cond_both, and_parts, eqb-true}
use Rattle.std.proofs.lemmas.List.{get_or_past, length-drop}
use Rattle.std.proofs.lemmas.List.Folds.{length-prefix_len}
use Rattle.std.proofs.lemmas.List.Sums.{prefix_len-le-length}
use Rattle.std.proofs.Math.Seq.{drop-cons}
use Rattle.std.proofs.Math.ListN.{drop_of_length-le}
use Rattle.sv_text.specs.declared.fault.TextCause.TheVariants as causes
use Rattle.sv_text.specs.declared.token.Mark.TheVariants as marks
use Rattle.sv_text.specs.declared.token.Token.{Token}
use Rattle.sv_text.specs.declared.token.Token.TheVariants as tokens
use Rattle.sv_text.specs.declared.token.Lexeme.{Lexeme}
use Rattle.sv_text.specs.declared.token.Left.TheVariants as lefts
use Rattle.sv_text.specs.declared.token.Ahead.{Ahead}
use Rattle.sv_text.specs.Tokens.{is_blank, digits_at, sign_at, ref_of, ref_at, word_at, positive_at, negative_at, token_at, is_joint, tokens_from, tokens_of}
use Rattle.sv_text.specs.Ahead.{nothing_ahead, held}

abbrev HasLength : List ℕ → Token × ℕ → Type 0
HasLength bs t = (0 < t.1) × (t.1 ≤ length bs)

stands : (bs : List ℕ) (i : ℕ) → (get_or bs i 0 ≡ 0 → ⊥) → i < length bs
stands bs i h = elim (cases_lt i (length bs)) [ inl lt ↦ lt | inr le ↦ absurd (h (get_or_past bs i 0 le)) ]

pub digit_stands : (bs : List ℕ) (i : ℕ) → is_ascii_digit (get_or bs i 0) ≡ true → i < length bs
digit_stands bs i h = stands bs i (λ e. let no : false ≡ true = subst (λ (x : ℕ). is_ascii_digit x ≡ true) e h in absurd cc)

byte_stands : (bs : List ℕ) (i k : ℕ) → eqb (get_or bs i 0) (suc k) ≡ true → i < length bs
byte_stands bs i k h = stands bs i (λ e. let is : get_or bs i 0 ≡ suc k = eqb-true _ _ h in absurd (omega arith))

digits_within : (at : ℕ) (bs : List ℕ) → length (digits_at at bs) ≤ length bs - at
digits_within at bs = omega (arith, length-prefix_len is_ascii_digit (drop at bs), prefix_len-le-length is_ascii_digit (drop at bs), length-drop at bs)

-- a run is as long as it is, and not empty where its first byte fits
run_starts : (p : ℕ → Bool) (bs : List ℕ) → p 0 ≡ false → p (get_or bs 0 0) ≡ true → 0 < prefix_len p bs
run_starts p [] out h = absurd cc
run_starts p (b ∷ bs) out h = let is : p b ≡ true = h in rw is (omega arith)

word_has : (bs : List ℕ) → is_ascii_lowercase (get_or bs 0 0) ≡ true → HasLength bs (word_at bs)
unfolding word_at
word_has bs h = (run_starts is_ascii_lowercase bs refl h, prefix_len-le-length is_ascii_lowercase bs)

number_has : (bs : List ℕ) → is_ascii_digit (get_or bs 0 0) ≡ true → HasLength bs (positive_at bs)
unfolding positive_at
number_has bs h =
    let some = run_starts is_ascii_digit bs refl h in
    let len = length-prefix_len is_ascii_digit bs in
    (omega arith, omega (arith, prefix_len-le-length is_ascii_digit bs))

negative_has : (bs : List ℕ) → is_ascii_digit (get_or bs 1 0) ≡ true → HasLength bs (negative_at bs)
unfolding negative_at
negative_has bs h = (omega arith, omega (arith, digits_within 1 bs, digit_stands bs 1 h))

ref_has : (bs : List ℕ) → 0 < length bs → HasLength bs (ref_at bs)
unfolding ref_at
ref_has bs some =
    let object = digits_at 1 bs in
    let attr = digits_at (2 + length object) bs in
    cond_both _ (ref_of object attr, 2 + length object + length attr) (tokens.Bad causes.Character, 1) (HasLength bs)
    (λ h.
    let both = and_parts _ _ h in
    let front = and_parts _ _ both.0 in
    let dot : 1 + length object < length bs = byte_stands bs (1 + length object) 45 front.1 in
    let more = digits_within (2 + length object) bs in
    (omega arith, omega arith))
    (λ h. (omega arith, some))

sign_has : (bs : List ℕ) → 0 < length bs → HasLength bs (sign_at bs)
unfolding sign_at
sign_has bs some =
    cond_both (eqb (get_or bs 0 0) 61) _ _ (HasLength bs)
    (λ h. cond_both (eqb (get_or bs 1 0) 61) (tokens.Mark marks.Equal, 2) (tokens.Bad causes.Character, 1) (HasLength bs) (λ e. let two = byte_stands bs 1 60 e in (omega arith, omega arith)) (λ _. (omega arith, some)))
    (λ h. cond_both (eqb (get_or bs 0 0) 60) _ _ (HasLength bs)
    (λ _. cond_both (eqb (get_or bs 1 0) 61) (tokens.Mark marks.LessEqual, 2) (tokens.Mark marks.Less, 1) (HasLength bs) (λ e. let two = byte_stands bs 1 60 e in (omega arith, omega arith)) (λ _. (omega arith, some)))
    (λ _. (omega arith, some)))

pub token_has : (bs : List ℕ) → 0 < length bs → HasLength bs (token_at bs)
unfolding token_at
token_has bs some =
    cond_both (is_ascii_lowercase (get_or bs 0 0)) _ _ (HasLength bs) (word_has bs)
    (λ _. cond_both (is_ascii_digit (get_or bs 0 0)) _ _ (HasLength bs) (number_has bs)
    (λ _. cond_both (eqb (get_or bs 0 0) 45 && is_ascii_digit (get_or bs 1 0)) _ _ (HasLength bs) (λ h. negative_has bs (and_parts _ _ h).1)
    (λ _. cond_both (eqb (get_or bs 0 0) 64) _ _ (HasLength bs) (λ _. ref_has bs some) (λ _. sign_has bs some))))

-- what is skipped belongs to no further token
skips : (k place : ℕ) (glued : Bool) (bs : List ℕ) → k ≤ length bs → tokens_from k place glued bs ≡ tokens_from 0 (place + k) glued (drop k bs)
unfolding tokens_from
skips zero place glued bs le = let e : place + 0 ≡ place = omega arith in rw e refl
skips (suc k) place glued [] le = absurd (omega arith)
skips (suc k) place glued (b ∷ bs) le = let e : place + 1 + k ≡ place + suc k = omega arith in skips k (place + 1) glued bs (omega arith) ∙ ap (λ (x : ℕ). tokens_from 0 x glued (drop k bs)) e

abbrev pub first : ℕ → Bool → List ℕ → Lexeme
first place glued bs = record { place = place; glued = glued; token = (token_at bs).0 }

pub blank_front : (place : ℕ) (glued : Bool) (b : ℕ) (bs : List ℕ) → is_blank b ≡ true → tokens_from 0 place glued (b ∷ bs) ≡ tokens_from 0 (place + 1) false bs
unfolding tokens_from
blank_front place glued b bs h = rw h refl

pub token_front : (place : ℕ) (glued : Bool) (b : ℕ) (bs : List ℕ) → is_blank b ≡ false → tokens_from 0 place glued (b ∷ bs) ≡ first place glued (b ∷ bs) ∷ tokens_from 0 (place + (token_at (b ∷ bs)).1) (is_joint (token_at (b ∷ bs)).0) (drop (token_at (b ∷ bs)).1 (b ∷ bs))
unfolding tokens_from
token_front place glued b bs h =
    let t = token_at (b ∷ bs) in
    let has = token_has (b ∷ bs) (omega arith) in
    let one = skips (t.1 - 1) (place + 1) (is_joint t.0) bs (omega arith) in
    let len : t.1 ≡ suc (t.1 - 1) = omega arith in
    let here : place + 1 + (t.1 - 1) ≡ place + t.1 = omega arith in
    let rest : drop (t.1 - 1) bs ≡ drop t.1 (b ∷ bs) = ap (λ (n : ℕ). drop n (b ∷ bs)) (sym len) in
    rw h (ap (λ (ts : List Lexeme). first place glued (b ∷ bs) ∷ ts) (one ∙ ap (λ (p : ℕ). tokens_from 0 p (is_joint t.0) (drop (t.1 - 1) bs)) here ∙ ap (λ (r : List ℕ). tokens_from 0 (place + t.1) (is_joint t.0) r) rest))

pub blank_step : (bs : List ℕ) (at : ℕ) (glued : Bool) → is_blank (get_or bs at 0) ≡ true → (at < length bs) × (tokens_from 0 at glued (drop at bs) ≡ tokens_from 0 (at + 1) false (drop (at + 1) bs))
blank_step bs at glued h =
    let lt : at < length bs = stands bs at (λ e. let no : false ≡ true = subst (λ (x : ℕ). is_blank x ≡ true) e h in absurd cc) in
    let one : at + 1 ≡ suc at = omega arith in
    (lt, rw (drop-cons bs at 0 lt, one) (blank_front at glued (get_or bs at 0) (drop (suc at) bs) h ∙ ap (λ (x : ℕ). tokens_from 0 x false (drop (suc at) bs)) one))

pub token_step : (bs : List ℕ) (at d : ℕ) (glued : Bool) → at < length bs → is_blank (get_or bs at d) ≡ false → tokens_from 0 at glued (drop at bs) ≡ first at glued (drop at bs) ∷ tokens_from 0 (at + (token_at (drop at bs)).1) (is_joint (token_at (drop at bs)).0) (drop (at + (token_at (drop at bs)).1) bs)
token_step bs at d glued lt h =
    let parts : drop at bs ≡ get_or bs at d ∷ drop (suc at) bs = drop-cons bs at d lt in
    let t = token_at (drop at bs) in
    let front = token_front at glued (get_or bs at d) (drop (suc at) bs) h in
    let made : tokens_from 0 at glued (drop at bs) ≡ first at glued (drop at bs) ∷ tokens_from 0 (at + t.1) (is_joint t.0) (drop t.1 (drop at bs)) =
    subst (λ (l : List ℕ). tokens_from 0 at glued l ≡ first at glued l ∷ tokens_from 0 (at + (token_at l).1) (is_joint (token_at l).0) (drop (token_at l).1 l)) (sym parts) front in
    made ∙ ap (λ (l : List ℕ). first at glued (drop at bs) ∷ tokens_from 0 (at + t.1) (is_joint t.0) l) (drop-drop t.1 at bs)

pub end_step : (bs : List ℕ) (at : ℕ) (glued : Bool) → length bs ≤ at → tokens_from 0 at glued (drop at bs) ≡ (record { place = at; glued = glued; token = tokens.Mark marks.End }) ∷ []
unfolding tokens_from
end_step bs at glued le = let none : drop at bs ≡ [] = drop_of_length-le bs le in ap (λ (l : List ℕ). tokens_from 0 at glued l) none

-- what stands ahead where a token begins
pub ahead_is : (bs : List ℕ) (at d : ℕ) (glued : Bool) (t : Token × ℕ) → at < length bs → is_blank (get_or bs at d) ≡ false → t ≡ token_at (drop at bs)
    → held bs (record { next = record { place = at; glued = glued; token = t.0 }; end = at + t.1; left = lefts.Tokens }) ≡ tokens_from 0 at glued (drop at bs)
unfolding held
ahead_is bs at d glued t lt h is =
    let P : Token × ℕ → Type 0 = λ u. (record { place = at; glued = glued; token = u.0 }) ∷ tokens_from 0 (at + u.1) (is_joint u.0) (drop (at + u.1) bs) ≡ tokens_from 0 at glued (drop at bs) in
    subst P (sym is) (sym (token_step bs at d glued lt h))

pub end_is : (bs : List ℕ) (at end : ℕ) (glued : Bool) → length bs ≤ at
    → held bs (record { next = record { place = at; glued = glued; token = tokens.Mark marks.End }; end = end; left = lefts.End }) ≡ tokens_from 0 at glued (drop at bs)
unfolding held
end_is bs at end glued le = sym (end_step bs at glued le)

-- the first token stands behind nothing
pub starts : (bs : List ℕ) (a b : Ahead) → a ≡ nothing_ahead → held bs b ≡ tokens_from 0 a.end (is_joint a.next.token) (drop a.end bs) → held bs b ≡ tokens_of bs
unfolding tokens_of is_joint
starts bs a b e told = rw e at told
