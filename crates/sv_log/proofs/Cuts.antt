-- What a crash leaves while a segment is cut off behind its text.
use Rattle.std.proofs.Common.{◌≡◌, ◌≢◌, ℕ, zero, suc, ◌+◌, ◌-◌, ◌≤◌, true, false, not, List, [], ◌∷◌, ◌++◌, length, take, drop, Option, Some, None, option_map, Result, Ok, refl, sym, ◌∙◌, ap, subst, arith, length-append}
use Rattle.std.specs.Str.{bytes_eq}
use Rattle.std.proofs.Math.Seq.{take-add}
use Rattle.std.proofs.lemmas.Bool.{and_from, or_left, or_right, not_from_false}
use Rattle.std.proofs.lemmas.List.{append-nil, take_at, drop_at}
use Rattle.sv_log.specs.Pictures.{Picture, Truncate, Sync, Disk, seen, noted, zeros, FileHasRoom, Makes}
use Rattle.sv_log.specs.Crashes.{Same, SameBut, CrashLeaves, CrashMayLeave, MayCut, LeavesOnly, is_synced}
use Rattle.sv_log.specs.Texts.{whole_in, IsText}
use Rattle.sv_log.specs.Logs.{LogStands}
use Rattle.sv_log.specs.Rests.{IsAtRest, Mends}
use Rattle.sv_log.proofs.Texts.{whole_text}
use Rattle.sv_log.proofs.Chained.{text_in}
use Rattle.sv_log.proofs.Moments.{made_only, then_only}
use Rattle.sv_log.proofs.Standing.{bytes_differ, bytes_same, put_same, put_other, surely, none_some, stands_rest}

cut_zeros : (j r : ℕ) → (m : ℕ) × (take j (zeros r) ≡ zeros m)
cut_zeros zero zero = (0, refl)
cut_zeros zero (suc r) = (0, refl)
cut_zeros (suc j) zero = (0, refl)
cut_zeros (suc j) (suc r) = let e = cut_zeros j r in (suc e.0, ap (λ (l : List ℕ). 0 ∷ l) e.1)

cut_behind : (text : List ℕ) (r k : ℕ) → length text ≤ k → (m : ℕ) × (take k (text ++ zeros r) ≡ text ++ zeros m)
cut_behind text r k le =
    let j : ℕ = k - length text in
    let is : k ≡ length text + j = omega (arith, le) in
    let e = cut_zeros j r in (
      e.0,
      ap (λ (m : ℕ). take m (text ++ zeros r)) is ∙ take-add (length text) j (text ++ zeros r)
          ∙ ap (λ (l : List ℕ). l ++ take j (drop (length text) (text ++ zeros r))) (take_at text (zeros r) (length text) refl)
          ∙ ap (λ (l : List ℕ). text ++ take j l) (drop_at text (zeros r) (length text) refl) ∙ ap (λ (l : List ℕ). text ++ l) e.1,
    )

module _ (disk : Disk) (name : List ℕ) (n room : ℕ) (rest : IsAtRest disk) (file : seen disk name ≡ Some (whole_in (seen disk name) ++ zeros room)) (size : n ≡ length (whole_in (seen disk name))) where
  abbrev text : List ℕ
  text = whole_in (seen disk name)

  abbrev P : Picture → Type 0
  P = Mends (seen disk) name text

  is_text : IsText text
  is_text = text_in (seen disk name)

  pub cut_room : FileHasRoom (seen disk) name 0 n
  cut_room = (text ++ zeros room, file, omega (arith, size, length-append text (zeros room)))

  quiet : (c : Picture) → CrashLeaves disk.start disk.past c → P c
  quiet c left = let same = rest.only c left in ((λ m ne. same m), ap whole_in (same name), (λ e. sym (same name) ∙ e))

  cutting : (c d : Picture) → CrashLeaves disk.start disk.past d → CrashMayLeave (Truncate name n) d c → (m : ℕ) × (c name ≡ Some (text ++ zeros m))
  cutting c d left step =
      let w = subst (λ (o : Option (List ℕ)). MayCut n o (c name)) (rest.only d left name ∙ file) step.1 in
      let e = cut_behind text room w.0 (subst (λ (m : ℕ). m ≤ w.0) size w.1) in
      (e.0, w.2 ∙ ap (λ (l : List ℕ). Some l) e.1)

  cut_mends : (c d : Picture) → CrashLeaves disk.start disk.past d → CrashMayLeave (Truncate name n) d c → P c
  cut_mends c d left step =
      let w = cutting c d left step in
      ((λ m ne. step.0 m ne ∙ rest.only d left m), ap whole_in w.1 ∙ whole_text text w.0 is_text, (λ e. absurd (none_some (c name) (text ++ zeros w.0) w.1 e)))

  same_mends : (c d : Picture) → Same c d → P d → P c
  same_mends c d same w = ((λ m ne. same m ∙ w.0 m ne), ap whole_in (same name) ∙ w.1, (λ e. w.2 (sym (same name) ∙ e)))

  pub cut_only : {T E : Type 0} (new : Disk) (result : Result T E) → Makes (Truncate name n) disk new result → LeavesOnly disk new P
  cut_only new result makes = made_only disk new (Truncate name n) result P makes quiet cut_mends

  abbrev cut_disk : Disk
  cut_disk = noted (Truncate name n, true) disk

  now_mends : (c : Picture) → CrashLeaves cut_disk.start cut_disk.past c → P c
  now_mends c left = cut_mends c left.0 left.1 left.2

  pub cut_sync_only : {T E : Type 0} (mid new : Disk) (result : Result T E) → mid ≡ cut_disk → Makes (Sync name) mid new result → LeavesOnly disk new P
  cut_sync_only mid new result is makes =
      then_only disk cut_disk new P (cut_only {T = ℕ} {E = ℕ} cut_disk (Ok 0) refl)
      (made_only cut_disk new (Sync name) result P (subst (λ (d : Disk). Makes (Sync name) d new result) is makes) now_mends (λ c d left same. same_mends c d same (now_mends d left)))

  cut_file : seen cut_disk name ≡ Some text
  cut_file =
      put_same name (option_map (take n) (seen disk name)) (seen disk) ∙ ap (option_map (take n)) file
      ∙ ap (λ (l : List ℕ). Some l) (take_at text (zeros room) n (sym size))

  abbrev last_disk : Disk
  last_disk = noted (Sync name, true) cut_disk

  last_stands : LogStands last_disk name text [] 0
  last_stands =
      let joined : seen cut_disk name ≡ Some (text ++ [] ++ zeros 0) = cut_file ∙ ap (λ (l : List ℕ). Some l) (sym (append-nil (text ++ []) ∙ append-nil text)) in record {
        synced_text = is_text;
        pending_text = refl;
        file = joined;
        crash = λ c left.
            let e = left.1 in
            let w = cutting left.0 e.0 e.1 e.2 in
            let is_some : c name ≡ Some (text ++ zeros w.0) = left.2 name ∙ w.1 in
            let is_seen : c name ≡ seen cut_disk name = surely (c name) (seen cut_disk name) _ is_some (left.3 refl rest.calm rest.names) in (
              (λ m ne. left.2 m ∙ e.2.0 m ne ∙ rest.only e.0 e.1 m ∙ sym (put_other name m _ (seen disk) ne)),
              ([], tt, is_seen ∙ joined),
            );
        calm = rest.calm;
        names = rest.names;
        others = λ m ne. or_right (bytes_eq m name) _ (and_from (not (bytes_eq m name)) _ (not_from_false (bytes_eq m name) (bytes_differ m name ne)) (rest.synced m));
      }

  pub cut_rest : (mid new : Disk) → mid ≡ cut_disk → new ≡ noted (Sync name, true) mid → IsAtRest new
  cut_rest mid new cut is =
      subst IsAtRest (sym (is ∙ ap (noted (Sync name, true)) cut))
      (stands_rest last_disk name text 0 last_stands (or_left (bytes_eq name name) (is_synced cut_disk.past name) (bytes_same name)))

  pub cut_seen : (mid new : Disk) → mid ≡ cut_disk → new ≡ noted (Sync name, true) mid → seen new name ≡ Some text
  cut_seen mid new cut is = ap (λ (d : Disk). seen d name) (is ∙ ap (noted (Sync name, true)) cut) ∙ cut_file

  pub cut_others : (mid new : Disk) → mid ≡ cut_disk → new ≡ noted (Sync name, true) mid → SameBut name (seen new) (seen disk)
  cut_others mid new cut is m ne = ap (λ (d : Disk). seen d m) (is ∙ ap (noted (Sync name, true)) cut) ∙ put_other name m _ (seen disk) ne
