-- What a stream begins with, and what stays of it when more bytes come.
use Rattle.std.proofs.Common.{◌≡◌, ℕ, zero, suc, ◌+◌, ◌-◌, ◌<◌, ◌≤◌, Bool, true, false, cond, List, [], ◌∷◌, ◌++◌, length, take, drop, Option, Some, None, refl, sym, ap, subst, ◌∙◌, append_assoc, arith, length-append, length-take, length-drop, ◌⊎◌, inl, inr, ltb, leb}
use Rattle.std.proofs.lemmas.Bool.{and_parts, and_from, and_left, and_right, and_cases, leb-true, leb-false, ltb-true, ltb-false, le-leb, lt-ltb, le-ltb, lt-leb, cond-true, cond-false}
use Rattle.std.proofs.lemmas.List.{take-append-le, drop-append-le, take_at, drop_at, take-append-drop, get_or-append-add, drop-drop}
use Rattle.std.proofs.lemmas.Nat.{be_bytes_4}
use Rattle.byteorder.specs.Endian.{big_bytes, big_number}
use Rattle.byteorder.specs.Numbers.{big_from-append, big_number-reads_back, length-bytes_high_first}
use Rattle.sv_frame.specs.Frames.{frame, FitsFrame, stated_length, has_frame, first_frame, has_long_length, too_long}
use Rattle.sv_frame.specs.Streams.{AreBytes}

-- an option is nothing or something
pub none_or_some : {A : Type 0} (o : Option A) → (o ≡ None) ⊎ ((x : A) × (o ≡ Some x))
none_or_some None = inl refl
none_or_some (Some x) = inr (x, refl)

pub some_pair : (a b x y : List ℕ) → a ≡ b → x ≡ y → ◌≡◌ {A = Option (List ℕ × List ℕ)} (Some (a, x)) (Some (b, y))
some_pair a b x y p q = cc

-- what a guarded value says of its guard
pub guard_some : {A : Type 0} (b : Bool) (x y : A) → cond b (Some x) None ≡ Some y → (b ≡ true) × (x ≡ y)
guard_some true x y e = (refl, cc)
guard_some false x y e = absurd cc

pub guard_none : {A : Type 0} (b : Bool) (x : A) → cond b (Some x) None ≡ None → b ≡ false
guard_none true x e = absurd cc
guard_none false x e = refl

pub stated_length-append : (stream more : List ℕ) → 4 ≤ length stream → stated_length (stream ++ more) ≡ stated_length stream
unfolding stated_length
stated_length-append stream more h = big_from-append 4 stream more h

pub stated : (stream : List ℕ) (n : ℕ) → n ≡ big_number 4 stream → n ≡ stated_length stream
unfolding stated_length
stated stream n e = e

-- a frame is appended in two steps
pub frame_appended : (before out between prefix payload after : List ℕ) → out ≡ before → between ≡ out ++ prefix → prefix ≡ big_bytes 4 (length payload) → after ≡ between ++ payload → after ≡ before ++ frame payload
unfolding frame
frame_appended before out between prefix payload after a b c d =
    let first : between ≡ before ++ big_bytes 4 (length payload) = cc in
    d ∙ (ap (λ (l : List ℕ). l ++ payload) first ∙ append_assoc before (big_bytes 4 (length payload)) payload)

pub length-frame : (payload : List ℕ) → length (frame payload) ≡ 4 + length payload
unfolding frame
length-frame payload = omega (arith, length-append (big_bytes 4 (length payload)) payload, length-bytes_high_first 4 (length payload))

pub stated_length-frame : (payload more : List ℕ) → FitsFrame payload → stated_length (frame payload ++ more) ≡ length payload
unfolding stated_length frame
stated_length-frame payload more fits =
    let n = length payload in
    ap (big_number 4) (append_assoc (big_bytes 4 n) payload more) ∙ big_number-reads_back 4 n (payload ++ more) (omega arith)

-- a whole frame at the front, by its parts
pub record FrameParts (stream payload after : List ℕ) : Type 0 where
  pub within : stated_length stream ≤ 65536
  pub enough : 4 + stated_length stream ≤ length stream
  pub payload_is : payload ≡ take (stated_length stream) (drop 4 stream)
  pub after_is : after ≡ drop (4 + stated_length stream) stream

pub parts_of_frame : (stream payload after : List ℕ) → first_frame stream ≡ Some (payload, after) → FrameParts stream payload after
unfolding first_frame
parts_of_frame stream payload after e =
    let n = stated_length stream in
    let g = guard_some (has_frame stream) (take n (drop 4 stream), drop (4 + n) stream) (payload, after) e in
    let both = and_parts (leb n 65536) (leb (4 + n) (length stream)) g.0 in
    record {
      within = leb-true _ _ both.0;
      enough = leb-true _ _ both.1;
      payload_is = sym (ap (λ (f : List ℕ × List ℕ). f.0) g.1);
      after_is = sym (ap (λ (f : List ℕ × List ℕ). f.1) g.1);
    }

pub frame_from_parts : (stream : List ℕ) (n : ℕ) → n ≡ stated_length stream → n ≤ 65536 → 4 + n ≤ length stream → first_frame stream ≡ Some (take n (drop 4 stream), drop (4 + n) stream)
unfolding first_frame
frame_from_parts stream n e within enough =
    let P : ℕ → Type 0 = λ m. m ≤ 65536 → 4 + m ≤ length stream → first_frame stream ≡ Some (take m (drop 4 stream), drop (4 + m) stream) in
    subst P (sym e) (λ small long. cond-true (has_frame stream) _ _ (and_from _ _ (le-leb _ _ small) (le-leb _ _ long))) within enough

pub no_frame_if_long : (stream : List ℕ) → 65536 < stated_length stream → first_frame stream ≡ None
unfolding first_frame
no_frame_if_long stream h = cond-false (has_frame stream) _ _ (and_left _ _ (lt-leb _ _ h))

pub no_frame_if_short : (stream : List ℕ) → length stream < 4 + stated_length stream → first_frame stream ≡ None
unfolding first_frame
no_frame_if_short stream h = cond-false (has_frame stream) _ _ (and_right _ _ (lt-leb _ _ h))

pub too_long_from : (stream : List ℕ) (n : ℕ) → n ≡ stated_length stream → 4 ≤ length stream → 65536 < n → too_long stream ≡ Some n
unfolding too_long
too_long_from stream n e long h =
    cond-true (has_long_length stream) _ _ (and_from _ _ (le-leb _ _ long) (lt-ltb _ _ (omega arith))) ∙ ap Some (sym e)

pub not_long_if_short : (stream : List ℕ) → length stream < 4 → too_long stream ≡ None
unfolding too_long
not_long_if_short stream h = cond-false (has_long_length stream) _ _ (and_left _ _ (lt-leb _ _ h))

pub not_long_within : (stream : List ℕ) → stated_length stream ≤ 65536 → too_long stream ≡ None
unfolding too_long
not_long_within stream h = cond-false (has_long_length stream) _ _ (and_right _ _ (le-ltb _ _ h))

-- a length over the limit, by its parts
pub record LongParts (stream : List ℕ) (n : ℕ) : Type 0 where
  pub come : 4 ≤ length stream
  pub over : 65536 < stated_length stream
  pub length_is : n ≡ stated_length stream

pub parts_of_long : (stream : List ℕ) (n : ℕ) → too_long stream ≡ Some n → LongParts stream n
unfolding too_long
parts_of_long stream n e =
    let g = guard_some (has_long_length stream) (stated_length stream) n e in
    let both = and_parts (leb 4 (length stream)) (ltb 65536 (stated_length stream)) g.0 in
    record { come = leb-true _ _ both.0; over = ltb-true _ _ both.1; length_is = sym g.1 }

-- neither a frame nor a length over the limit: fewer bytes than a frame of the greatest payload
pub room_if_neither : (stream : List ℕ) → first_frame stream ≡ None → too_long stream ≡ None → length stream < 65540
unfolding first_frame too_long
room_if_neither stream no_frame not_long =
    let n = stated_length stream in
    let f = and_cases (leb n 65536) (leb (4 + n) (length stream)) (guard_none (has_frame stream) _ no_frame) in
    let l = and_cases (leb 4 (length stream)) (ltb 65536 n) (guard_none (has_long_length stream) _ not_long) in
    elim f [
      | inl over ↦ elim l [ inl short ↦ omega (arith, leb-false _ _ short) | inr small ↦ absurd (omega (arith, leb-false _ _ over, ltb-false _ _ small)) ]
      | inr short ↦ elim l [ inl few ↦ omega (arith, leb-false _ _ few) | inr small ↦ omega (arith, leb-false _ _ short, ltb-false _ _ small) ]
    ]

pub first_frame-append : (stream more payload after : List ℕ) → first_frame stream ≡ Some (payload, after) → first_frame (stream ++ more) ≡ Some (payload, after ++ more)
first_frame-append stream more payload after e =
    let p = parts_of_frame stream payload after e in
    let n = stated_length stream in
    let same = stated_length-append stream more (omega arith) in
    let body : take n (drop 4 (stream ++ more)) ≡ payload =
    ap (take n) (drop-append-le 4 stream more (omega arith)) ∙ take-append-le n (drop 4 stream) more (omega (arith, length-drop 4 stream)) ∙ sym p.payload_is in
    let rest : drop (4 + n) (stream ++ more) ≡ after ++ more =
    drop-append-le (4 + n) stream more p.enough ∙ ap (λ (l : List ℕ). l ++ more) (sym p.after_is) in
    frame_from_parts (stream ++ more) n (sym same) p.within (omega (arith, length-append stream more)) ∙ cc

pub too_long-append : (stream more : List ℕ) (n : ℕ) → too_long stream ≡ Some n → too_long (stream ++ more) ≡ Some n
too_long-append stream more n e =
    let p = parts_of_long stream n e in
    let same = stated_length-append stream more p.come in
    too_long_from (stream ++ more) n (p.length_is ∙ sym same) (omega (arith, length-append stream more)) (omega arith)

pub too_long-over : (stream : List ℕ) (n : ℕ) → too_long stream ≡ Some n → 65536 < n
too_long-over stream n e = let p = parts_of_long stream n e in omega arith

pub no_frame_if_too_long : (stream : List ℕ) (n : ℕ) → too_long stream ≡ Some n → first_frame stream ≡ None
no_frame_if_too_long stream n e = no_frame_if_long stream (parts_of_long stream n e).over

-- what comes after a frame is shorter
pub first_frame-shorter : (stream payload after : List ℕ) → first_frame stream ≡ Some (payload, after) → length after < length stream
first_frame-shorter stream payload after e =
    let p = parts_of_frame stream payload after e in
    let len : length after ≡ length stream - (4 + stated_length stream) = ap length p.after_is ∙ length-drop (4 + stated_length stream) stream in
    omega arith

pub first_frame-frame : (payload more : List ℕ) → FitsFrame payload → first_frame (frame payload ++ more) ≡ Some (payload, more)
unfolding frame
first_frame-frame payload more fits =
    let n = length payload in
    let stream = frame payload ++ more in
    let prefix = big_bytes 4 n in
    let regrouped : stream ≡ prefix ++ (payload ++ more) = append_assoc prefix payload more in
    let body : take n (drop 4 stream) ≡ payload =
    ap (λ (l : List ℕ). take n (drop 4 l)) regrouped ∙ ap (take n) (drop_at prefix (payload ++ more) 4 (length-bytes_high_first 4 n)) ∙ take_at payload more n refl in
    let rest : drop (4 + n) stream ≡ more = drop_at (frame payload) more (4 + n) (length-frame payload) in
    frame_from_parts stream n (sym (stated_length-frame payload more fits)) fits (omega (arith, length-append (frame payload) more, length-frame payload)) ∙ cc

four_bytes : (a b c d : ℕ) → a < 256 → b < 256 → c < 256 → d < 256 → AreBytes (a ∷ b ∷ c ∷ d ∷ [])
four_bytes a b c d ha hb hc hd zero = ha
four_bytes a b c d ha hb hc hd (suc zero) = hb
four_bytes a b c d ha hb hc hd (suc (suc zero)) = hc
four_bytes a b c d ha hb hc hd (suc (suc (suc zero))) = hd
four_bytes a b c d ha hb hc hd (suc (suc (suc (suc i)))) = omega arith

-- the first four bytes are those of the length
pub bytes_of_stated_length : (stream : List ℕ) → AreBytes stream → 4 ≤ length stream → big_bytes 4 (stated_length stream) ≡ take 4 stream
unfolding stated_length
bytes_of_stated_length [] bytes h = absurd (omega arith)
bytes_of_stated_length (a ∷ []) bytes h = absurd (omega arith)
bytes_of_stated_length (a ∷ b ∷ []) bytes h = absurd (omega arith)
bytes_of_stated_length (a ∷ b ∷ c ∷ []) bytes h = absurd (omega arith)
bytes_of_stated_length (a ∷ b ∷ c ∷ d ∷ stream) bytes h =
    be_bytes_4 (a ∷ b ∷ c ∷ d ∷ []) (big_number 4 (a ∷ b ∷ c ∷ d ∷ stream)) refl (four_bytes a b c d (bytes 0) (bytes 1) (bytes 2) (bytes 3)) (omega arith)

-- a stream of bytes that begins with a frame is that frame and what comes after it
pub stream_is_frame : (stream payload after : List ℕ) → AreBytes stream → first_frame stream ≡ Some (payload, after) → (stream ≡ frame payload ++ after) × FitsFrame payload
unfolding frame
stream_is_frame stream payload after bytes e =
    let p = parts_of_frame stream payload after e in
    let n = stated_length stream in
    let len : length payload ≡ n = ap length p.payload_is ∙ length-take n (drop 4 stream) ∙ omega (arith, length-drop 4 stream) in
    let prefix : big_bytes 4 (length payload) ≡ take 4 stream = ap (big_bytes 4) len ∙ bytes_of_stated_length stream bytes (omega arith) in
    let body : payload ++ after ≡ drop 4 stream =
    ap (λ (l : List ℕ). l ++ after) p.payload_is ∙ ap (λ (l : List ℕ). take n (drop 4 stream) ++ l) (p.after_is ∙ sym (drop-drop n 4 stream)) ∙ take-append-drop n (drop 4 stream) in
    let whole : frame payload ++ after ≡ stream =
    append_assoc (big_bytes 4 (length payload)) payload after
    ∙ (ap (λ (l : List ℕ). l ++ (payload ++ after)) prefix ∙ (ap (λ (l : List ℕ). take 4 stream ++ l) body ∙ take-append-drop 4 stream)) in
    (sym whole, omega (arith, p.within))

pub bytes-after : (front after : List ℕ) → AreBytes (front ++ after) → AreBytes after
bytes-after front after bytes i = subst (λ (x : ℕ). x < 256) (get_or-append-add front after i 0) (bytes (length front + i))
