-- What a crash leaves while the end of a segment is made zero.
use Rattle.std.proofs.Common.{◌≡◌, ◌≢◌, inl, inr, ⊎_elim, ℕ, zero, suc, ◌+◌, ◌-◌, ◌<◌, ◌≤◌, true, false, cond, not, ◌==◌, List, [], ◌∷◌, ◌++◌, length, take, drop, get_or, Option, Some, None, option_map, Result, Ok, Err, OnOk, refl, sym, ◌∙◌, ap, subst, arith, append_assoc, take-append-drop}
use Rattle.std.specs.Str.{bytes_eq}
use Rattle.std.proofs.lemmas.Bool.{cases_Bool, cond-true, cond-false, false≢true, and_from, or_left, or_right, not_from_false, ne_eqb, eqb-true}
use Rattle.std.proofs.lemmas.List.{append-nil, append_cancel_left, drop_all, take_all, take_more, drop_more, length-replicate}
use Rattle.std.proofs.Math.Seq.{take-add}
use Rattle.sv_log.specs.Pictures.{Picture, Call, Write, Sync, Disk, seen, noted, over, zeros, FileHasRoom, Makes}
use Rattle.sv_log.specs.Crashes.{Same, SameBut, Torn, CrashLeaves, CrashMayLeave, MayWrite, LeavesOnly, is_synced}
use Rattle.sv_log.specs.Texts.{has_line, whole, whole_in, IsText}
use Rattle.sv_log.specs.Rests.{IsAtRest, Mends}
use Rattle.sv_log.specs.Logs.{LogStands}
use Rattle.sv_log.proofs.Texts.{whole-append, text-append}
use Rattle.sv_log.proofs.Moments.{made_only, then_only, same_only}
use Rattle.sv_log.proofs.Standing.{bytes_differ, bytes_same, put_same, put_other, none_some, stands_rest}

pub whole_none : (x : List ℕ) → has_line x ≡ false → whole x ≡ []
whole_none [] none = refl
whole_none (b ∷ x) none = cond-false (has_line (b ∷ x)) (b ∷ whole x) [] none

-- a line that ends, ends in the whole lines
still : (b : ℕ) (x : List ℕ) → (has_line x ≡ true → has_line (whole x) ≡ true) → has_line (b ∷ x) ≡ true → has_line (b ∷ whole x) ≡ true
still b x below ends = elim (cases_Bool (b == 0)) [
  | inl lost ↦ absurd (false≢true (sym (cond-true (b == 0) false (cond (b == 10) true (has_line x)) lost) ∙ ends))
  | inr some ↦ elim (cases_Bool (b == 10)) [
    | inl lf ↦ cond-false (b == 0) false (cond (b == 10) true (has_line (whole x))) some ∙ cond-true (b == 10) true (has_line (whole x)) lf
    | inr other ↦
        let later : has_line x ≡ true = sym (cond-false (b == 10) true (has_line x) other) ∙ sym (cond-false (b == 0) false (cond (b == 10) true (has_line x)) some) ∙ ends in
        cond-false (b == 0) false (cond (b == 10) true (has_line (whole x))) some ∙ cond-false (b == 10) true (has_line (whole x)) other ∙ below later
  ]
]

in_whole : (x : List ℕ) → has_line x ≡ true → has_line (whole x) ≡ true
in_whole [] ends = ends
in_whole (b ∷ x) ends = ap has_line (cond-true (has_line (b ∷ x)) (b ∷ whole x) [] ends) ∙ still b x (in_whole x) ends

-- the whole lines of whole lines are they
pub whole_again : (x : List ℕ) → IsText (whole x)
whole_again [] = refl
whole_again (b ∷ x) = elim (cases_Bool (has_line (b ∷ x))) [
  | inl ends ↦
      let is : whole (b ∷ x) ≡ b ∷ whole x = cond-true (has_line (b ∷ x)) (b ∷ whole x) [] ends in
      subst IsText (sym is) (cond-true (has_line (b ∷ whole x)) (b ∷ whole (whole x)) [] (still b x (in_whole x) ends) ∙ ap (λ (l : List ℕ). b ∷ l) (whole_again x))
  | inr none ↦ subst IsText (sym (whole_none (b ∷ x) none)) refl
]

none_whole : (x : List ℕ) → whole x ≡ [] → has_line x ≡ false
none_whole [] is = refl
none_whole (b ∷ x) is = elim (cases_Bool (has_line (b ∷ x))) [
  | inl ends ↦ let e : b ∷ whole x ≡ [] = sym (cond-true (has_line (b ∷ x)) (b ∷ whole x) [] ends) ∙ is in absurd (cc e)
  | inr none ↦ none
]

-- ---- Where the text ends

-- bytes that are no zero and end no line
abbrev pub IsPlain : List ℕ → Type 0
IsPlain front = (r : List ℕ) → (has_line (front ++ r) ≡ has_line r) × (has_line r ≡ true → whole (front ++ r) ≡ front ++ whole r)

pub plain_nil : IsPlain []
plain_nil r = (refl, λ h. refl)

plain_byte : (b : ℕ) (r : List ℕ) → b ≢ 0 → b ≢ 10 → has_line (b ∷ r) ≡ has_line r
plain_byte b r some other = cond-false (b == 0) false (cond (b == 10) true (has_line r)) (ne_eqb b 0 some) ∙ cond-false (b == 10) true (has_line r) (ne_eqb b 10 other)

pub plain_more : (bytes : List ℕ) (i : ℕ) → i < length bytes → get_or bytes i 0 ≢ 0 → get_or bytes i 0 ≢ 10 → IsPlain (take i bytes) → IsPlain (take (i + 1) bytes)
plain_more bytes i within some other plain = subst IsPlain (sym (take_more bytes i 0 within)) (λ r.
    let front = take i bytes in
    let b = get_or bytes i 0 in
    let moved : (front ++ b ∷ []) ++ r ≡ front ++ (b ∷ r) = append_assoc front (b ∷ []) r in
    let same : has_line (b ∷ r) ≡ has_line r = plain_byte b r some other in (
      ap has_line moved ∙ (plain (b ∷ r)).0 ∙ same,
      λ ends. ap whole moved ∙ (plain (b ∷ r)).1 (same ∙ ends) ∙ ap (λ (l : List ℕ). front ++ l) (cond-true (has_line (b ∷ r)) (b ∷ whole r) [] (same ∙ ends))
          ∙ sym (append_assoc front (b ∷ []) (whole r)),
    ))

pub at_zero : (bytes : List ℕ) (i : ℕ) → i < length bytes → get_or bytes i 0 ≡ 0 → IsPlain (take i bytes) → has_line bytes ≡ false
at_zero bytes i within lost plain =
    ap has_line (sym (take-append-drop i bytes) ∙ ap (λ (l : List ℕ). take i bytes ++ l) (drop_more bytes i 0 within))
    ∙ (plain (get_or bytes i 0 ∷ drop (i + 1) bytes)).0 ∙ ap (λ (x : ℕ). has_line (x ∷ drop (i + 1) bytes)) lost

pub at_line : (bytes : List ℕ) (i : ℕ) → i < length bytes → get_or bytes i 0 ≡ 10 → IsPlain (take i bytes) → IsText (take (i + 1) bytes)
at_line bytes i within lf plain =
    let is : take (i + 1) bytes ≡ take i bytes ++ 10 ∷ [] = take_more bytes i 0 within ∙ ap (λ (x : ℕ). take i bytes ++ x ∷ []) lf in
    subst IsText (sym is) ((plain (10 ∷ [])).1 refl)

pub at_end : (bytes : List ℕ) (n : ℕ) → length bytes ≤ n → IsPlain (take n bytes) → has_line bytes ≡ false
at_end bytes n le plain = ap has_line (sym (append-nil bytes) ∙ ap (λ (l : List ℕ). l ++ []) (sym (take_all n bytes le))) ∙ (plain []).0

pub text_more : (bytes : List ℕ) (m n : ℕ) → IsText (take m bytes) → IsText (take n (drop m bytes)) → IsText (take (m + n) bytes)
text_more bytes m n first second = subst IsText (sym (take-add m n bytes)) (text-append (take m bytes) (take n (drop m bytes)) first second)

pub text_all : (bytes : List ℕ) (n : ℕ) → IsText (take n bytes) → has_line (drop n bytes) ≡ false → take n bytes ≡ whole bytes
text_all bytes n text none = sym (
    ap whole (sym (take-append-drop n bytes)) ∙ whole-append (take n bytes) (drop n bytes) text ∙ ap (λ (l : List ℕ). take n bytes ++ l) (whole_none (drop n bytes) none)
    ∙ append-nil (take n bytes)
    )

-- ---- Zeros over what stands behind the text

lost_line : (t : ℕ) (l : List ℕ) → t ≡ 0 → has_line (t ∷ l) ≡ false
lost_line t l lost = ap (λ (x : ℕ). has_line (x ∷ l)) lost

-- zeros that are torn over bytes without a line have none
torn_none : (old : List ℕ) (n : ℕ) (torn : List ℕ) → has_line old ≡ false → Torn old (zeros n) torn → has_line torn ≡ false
torn_none [] zero [] none h = refl
torn_none (o ∷ old) zero [] none h = refl
torn_none [] zero (t ∷ torn) none h = absurd h
torn_none (o ∷ old) zero (t ∷ torn) none h = absurd h
torn_none [] (suc n) [] none h = absurd h
torn_none [] (suc n) (t ∷ torn) none h = absurd h
torn_none (o ∷ old) (suc n) [] none h = absurd h
torn_none (o ∷ old) (suc n) (t ∷ torn) none h = elim h.0 [
  | inl same ↦ elim (cases_Bool (o == 0)) [
    | inl lost ↦ lost_line t torn (same ∙ eqb-true o 0 lost)
    | inr some ↦ elim (cases_Bool (o == 10)) [
      | inl lf ↦ absurd (false≢true (sym none ∙ cond-false (o == 0) false (cond (o == 10) true (has_line old)) some ∙ cond-true (o == 10) true (has_line old) lf))
      | inr other ↦
          let below : has_line old ≡ false = sym (cond-false (o == 10) true (has_line old) other) ∙ sym (cond-false (o == 0) false (cond (o == 10) true (has_line old)) some) ∙ none in
          ap (λ (x : ℕ). has_line (x ∷ torn)) same ∙ cond-false (o == 0) false (cond (o == 10) true (has_line torn)) some ∙ cond-false (o == 10) true (has_line torn) other
          ∙ torn_none old n torn below h.1
    ]
  ]
  | inr lost ↦ lost_line t torn lost
]

length_torn : (old bytes torn : List ℕ) → Torn old bytes torn → length torn ≡ length bytes
length_torn [] [] [] h = refl
length_torn (o ∷ old) [] [] h = refl
length_torn [] [] (t ∷ torn) h = absurd h
length_torn (o ∷ old) [] (t ∷ torn) h = absurd h
length_torn [] (b ∷ bytes) [] h = absurd h
length_torn [] (b ∷ bytes) (t ∷ torn) h = absurd h
length_torn (o ∷ old) (b ∷ bytes) [] h = absurd h
length_torn (o ∷ old) (b ∷ bytes) (t ∷ torn) h = ap suc (length_torn old bytes torn h.1)

module _ (disk : Disk) (name bytes : List ℕ) (end : ℕ) (rest : IsAtRest disk) (file : seen disk name ≡ Some bytes) (text : take end bytes ≡ whole bytes) (within : end ≤ length bytes) where
  abbrev n : ℕ
  n = length bytes - end

  is_text : IsText (take end bytes)
  is_text = subst IsText (sym text) (whole_again bytes)

  no_line : has_line (drop end bytes) ≡ false
  no_line = none_whole (drop end bytes) (append_cancel_left (take end bytes) (whole (drop end bytes)) []
      (sym (whole-append (take end bytes) (drop end bytes) is_text) ∙ ap whole (take-append-drop end bytes) ∙ sym text ∙ sym (append-nil (take end bytes))))

  over_all : (torn : List ℕ) → length torn ≡ n → over end torn bytes ≡ take end bytes ++ torn
  over_all torn size = ap (λ (l : List ℕ). take end bytes ++ torn ++ l) (drop_all (end + length torn) bytes (omega (arith, size, within))) ∙ append-nil (take end bytes ++ torn)

  pub clear_room : FileHasRoom (seen disk) name end n
  clear_room = (bytes, file, omega (arith, within))

  pub rest_tells : (c : Picture) → CrashLeaves disk.start disk.past c → Mends (seen disk) name (whole bytes) c
  rest_tells c left = let same = rest.only c left in ((λ m ne. same m), ap whole_in (same name ∙ file), (λ e. sym (same name) ∙ e))

  -- what a torn write of the zeros leaves
  cleared : (c d : Picture) → CrashLeaves disk.start disk.past d → CrashMayLeave (Write name end (zeros n)) d c → (torn : List ℕ) × (has_line torn ≡ false) × (c name ≡ Some (take end bytes ++ torn))
  cleared c d left step =
      let is : d name ≡ Some bytes = rest.only d left name ∙ file in
      let w = subst (λ (o : Option (List ℕ)). MayWrite end (zeros n) o (c name)) is step.1 in
      let size : length w.0 ≡ n = length_torn (drop end bytes) (zeros n) w.0 w.1 ∙ length-replicate {A = ℕ} n 0 in
      (w.0, torn_none (drop end bytes) n w.0 no_line w.1, w.2 ∙ ap (λ (l : List ℕ). Some l) (over_all w.0 size))

  pub clear_tells : (c d : Picture) → CrashLeaves disk.start disk.past d → CrashMayLeave (Write name end (zeros n)) d c → Mends (seen disk) name (whole bytes) c
  clear_tells c d left step =
      let w = cleared c d left step in (
        (λ m ne. step.0 m ne ∙ rest.only d left m),
        ap whole_in w.2 ∙ whole-append (take end bytes) w.0 is_text ∙ ap (λ (l : List ℕ). take end bytes ++ l) (whole_none w.0 w.1) ∙ append-nil (take end bytes) ∙ text,
        (λ e. absurd (none_some (c name) (take end bytes ++ w.0) w.2 e)),
      )

  tells_same : (c d : Picture) → Same c d → Mends (seen disk) name (whole bytes) d → Mends (seen disk) name (whole bytes) c
  tells_same c d same w = ((λ m ne. same m ∙ w.0 m ne), ap whole_in (same name) ∙ w.1, (λ e. w.2 (sym (same name) ∙ e)))

  pub clear_only : {T E : Type 0} (new : Disk) (result : Result T E) → Makes (Write name end (zeros n)) disk new result → LeavesOnly disk new (Mends (seen disk) name (whole bytes))
  clear_only new result makes = made_only disk new (Write name end (zeros n)) result (Mends (seen disk) name (whole bytes)) makes rest_tells clear_tells

  pub calm_tells : LeavesOnly disk disk (Mends (seen disk) name (whole bytes))
  calm_tells = same_only disk disk (Mends (seen disk) name (whole bytes)) refl rest_tells

  pub clear_sync_only : {T E : Type 0} (mid new : Disk) (result : Result T E) → mid ≡ noted (Write name end (zeros n), true) disk → Makes (Sync name) mid new result
      → LeavesOnly disk new (Mends (seen disk) name (whole bytes))
  clear_sync_only mid new result is makes =
      let P = Mends (seen disk) name (whole bytes) in
      let now : (c : Picture) → CrashLeaves mid.start mid.past c → P c = λ c left.
      let e = subst (λ (m : Disk). CrashLeaves m.start m.past c) is left in clear_tells c e.0 e.1 e.2 in
      then_only disk mid new P (clear_only {T = ℕ} {E = ℕ} mid (Ok 0) is) (made_only mid new (Sync name) result P makes now (λ c d left same. tells_same c d same (now d left)))

  cleared_file : seen (noted (Write name end (zeros n), true) disk) name ≡ Some (whole bytes ++ [] ++ zeros n)
  cleared_file =
      put_same name (option_map (over end (zeros n)) (seen disk name)) (seen disk) ∙ ap (option_map (over end (zeros n))) file
      ∙ ap (λ (l : List ℕ). Some l) (over_all (zeros n) (length-replicate {A = ℕ} n 0) ∙ ap (λ (l : List ℕ). l ++ zeros n) (text ∙ sym (append-nil (whole bytes))))

  pub clear_stands : (mid new : Disk) → mid ≡ noted (Write name end (zeros n), true) disk → new ≡ noted (Sync name, true) mid → LogStands new name (whole bytes) [] n
  clear_stands mid new wrote is = subst (λ (d : Disk). LogStands d name (whole bytes) [] n) (sym (is ∙ ap (noted (Sync name, true)) wrote)) record {
    synced_text = whole_again bytes;
    pending_text = refl;
    file = cleared_file;
    crash = λ c left.
        let e = left.1 in
        let w = cleared left.0 e.0 e.1 e.2 in
        let is_some : c name ≡ Some (take end bytes ++ w.0) = left.2 name ∙ w.2 in
        let is_seen : c name ≡ seen (noted (Write name end (zeros n), true) disk) name =
        ⊎_elim (λ (none : c name ≡ None). absurd (cc (is_some, none))) (λ same. same) (left.3 refl rest.calm rest.names) in (
          (λ m ne. left.2 m ∙ e.2.0 m ne ∙ rest.only e.0 e.1 m ∙ sym (put_other name m _ (seen disk) ne)),
          ([], tt, is_seen ∙ cleared_file),
        );
    calm = rest.calm;
    names = rest.names;
    others = λ m ne. or_right (bytes_eq m name) _ (and_from (not (bytes_eq m name)) _ (not_from_false (bytes_eq m name) (bytes_differ m name ne)) (rest.synced m));
  }

  pub clear_rest : (mid new : Disk) → mid ≡ noted (Write name end (zeros n), true) disk → new ≡ noted (Sync name, true) mid → IsAtRest new
  clear_rest mid new wrote is =
      stands_rest new name (whole bytes) n (clear_stands mid new wrote is)
      (subst (λ (d : Disk). is_synced d.past name ≡ true) (sym is) (or_left (bytes_eq name name) (is_synced mid.past name) (bytes_same name)))

  pub clear_others : (mid new : Disk) → mid ≡ noted (Write name end (zeros n), true) disk → new ≡ noted (Sync name, true) mid → SameBut name (seen new) (seen disk)
  clear_others mid new wrote is m ne = ap (λ (d : Disk). seen d m) (is ∙ ap (noted (Sync name, true)) wrote) ∙ put_other name m _ (seen disk) ne

-- before anything is asked
pub quiet_mends : (disk new : Disk) (name : List ℕ) → IsAtRest disk → new ≡ disk → LeavesOnly disk new (Mends (seen disk) name (whole_in (seen disk name)))
quiet_mends disk new name rest is =
    same_only disk new (Mends (seen disk) name (whole_in (seen disk name))) is
    (λ c left. let same = rest.only c left in ((λ m ne. same m), ap whole_in (same name), (λ e. sym (same name) ∙ e)))

-- what holds after a call that was answered Ok
pub on_made : {T E Q : Type 0} (call : Call) (old new : Disk) (result : Result T E) → Makes call old new result → (new ≡ noted (call, true) old → Q) → OnOk result Q
on_made call old new (Ok x) makes holds = holds makes
on_made call old new (Err e) makes holds = tt
