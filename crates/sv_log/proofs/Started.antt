-- What a crash leaves while a segment is made.
use Rattle.std.proofs.Common.{◌≡◌, ◌≢◌, ◌⊎◌, inl, inr, ⊎_elim, ℕ, ◌+◌, ◌-◌, ◌<◌, ◌≤◌, min, Bool, true, false, cond, not, List, [], ◌∷◌, ◌++◌, length, take, drop, Option, Some, None, Result, Ok, Err, refl, sym, ◌∙◌, ap, subst, arith, length-append, length-take-le}
use Rattle.std.specs.Str.{bytes_eq}
use Rattle.std.specs.String.{string_bytes}
use Rattle.std.proofs.Math.Seq.{take-add}
use Rattle.std.proofs.lemmas.List.{append-nil, take_all}
use Rattle.std.proofs.lemmas.Bool.{cases_Bool, and_from, or_left, or_right, not_from_false}
use Rattle.sv_log.specs.Pictures.{Picture, Call, Make, Sync, SyncFolder, Made, Disk, seen, noted, zeros, Makes}
use Rattle.sv_log.specs.Crashes.{Same, SameBut, CrashLeaves, CrashMayLeave, MayMake, LeavesOnly, is_synced}
use Rattle.sv_log.specs.Texts.{whole, whole_in}
use Rattle.sv_log.specs.Rests.{IsAtRest, Tells}
use Rattle.sv_log.specs.Logs.{LogStands, IsOpen, appended, synced}
use Rattle.sv_log.specs.Reads.{ReadsPart}
use Rattle.sv_log.specs.declared.segment.Segment.{Segment}
use Rattle.sv_log.proofs.Texts.{whole_zeros}
use Rattle.sv_log.proofs.Moments.{made_only, then_only, same_only}
use Rattle.sv_log.proofs.Standing.{put_same, put_other, opened, opened_text, opened_synced}

tells_same : (others : Picture) (name text : List ℕ) (c d : Picture) → Same c d → Tells others name text d → Tells others name text c
tells_same others name text c d same w = ((λ m ne. same m ∙ w.0 m ne), ap whole_in (same name) ∙ w.1)

none_made : (n : ℕ) (old new : Option (List ℕ)) → old ≡ None → MayMake n old new → whole_in new ≡ []
none_made n old new none may =
    ⊎_elim (λ (is : new ≡ None). ap whole_in is) (λ (m : (k : ℕ) × (k ≤ n) × (new ≡ Some (zeros k))). ap whole_in m.2 ∙ whole_zeros m.0)
    (subst (λ (o : Option (List ℕ)). MayMake n o new) none may)

module _ (disk : Disk) (name : List ℕ) (size : ℕ) (rest : IsAtRest disk) (none : seen disk name ≡ None) where
  abbrev P : Picture → Type 0
  P = Tells (seen disk) name []

  pub empty_tells : (c : Picture) → CrashLeaves disk.start disk.past c → P c
  empty_tells c left = let same = rest.only c left in ((λ m ne. same m), ap whole_in (same name ∙ none))

  make_tells : (c d : Picture) → CrashLeaves disk.start disk.past d → CrashMayLeave (Make name size) d c → P c
  make_tells c d left step = (
    (λ m ne. step.0 m ne ∙ rest.only d left m),
    none_made size (d name) (c name) (rest.only d left name ∙ none) step.1,
  )

  pub make_only : {T E : Type 0} (new : Disk) (result : Result T E) → Makes (Make name size) disk new result → LeavesOnly disk new P
  make_only new result makes = made_only disk new (Make name size) result P makes empty_tells make_tells

  module _ (made : Disk) (is_made : made ≡ noted (Make name size, true) disk) where
    made_tells : (c : Picture) → CrashLeaves made.start made.past c → P c
    made_tells c left = let e = subst (λ (m : Disk). CrashLeaves m.start m.past c) is_made left in make_tells c e.0 e.1 e.2

    pub make_sync_only : {T E : Type 0} (new : Disk) (result : Result T E) → Makes (Sync name) made new result → LeavesOnly disk new P
    make_sync_only new result makes =
        then_only disk made new P (make_only {T = ℕ} {E = ℕ} made (Ok 0) is_made)
        (made_only made new (Sync name) result P makes made_tells (λ c d left same. tells_same (seen disk) name [] c d same (made_tells d left)))

    module _ (kept : Disk) (is_kept : kept ≡ noted (Sync name, true) made) where
      kept_tells : (c : Picture) → CrashLeaves kept.start kept.past c → P c
      kept_tells c left =
          let e = subst (λ (m : Disk). CrashLeaves m.start m.past c) is_kept left in
          tells_same (seen disk) name [] c e.0 e.2 (made_tells e.0 e.1)

      pub make_folder_only : {T E : Type 0} (new : Disk) (result : Result T E) → Makes SyncFolder kept new result → LeavesOnly disk new P
      make_folder_only new result makes =
          then_only disk kept new P (make_sync_only {T = ℕ} {E = ℕ} kept (Ok 0) is_kept)
          (made_only kept new SyncFolder result P makes kept_tells (λ c d left same. tells_same (seen disk) name [] c d same (kept_tells d left)))

      made_file : seen (noted (Make name size, true) disk) name ≡ Some ([] ++ [] ++ zeros size)
      made_file = put_same name (Some (zeros size)) (seen disk)

      all_synced : (n : List ℕ) → is_synced ((Sync name, true) ∷ (Make name size, true) ∷ disk.past) n ≡ true
      all_synced n =
          ⊎_elim (λ (same : bytes_eq n name ≡ true). or_left (bytes_eq n name) _ same)
          (λ (other : bytes_eq n name ≡ false). or_right (bytes_eq n name) _ (and_from (not (bytes_eq n name)) _ (not_from_false (bytes_eq n name) other) (rest.synced n)))
          (cases_Bool (bytes_eq n name))

      pub make_stands : (new : Disk) → new ≡ noted (SyncFolder, true) kept → LogStands new name [] [] size
      make_stands new is =
          subst (λ (d : Disk). LogStands d name [] [] size) (sym (is ∙ ap (noted (SyncFolder, true)) (is_kept ∙ ap (noted (Sync name, true)) is_made))) record {
            synced_text = refl;
            pending_text = refl;
            file = made_file;
            crash = λ c left.
                let sure = left.3 refl rest.calm in (
                  (λ m ne. sure m (all_synced m)),
                  ([], tt, sure name (all_synced name) ∙ made_file),
                );
            calm = rest.calm;
            names = refl;
            others = λ m ne. all_synced m;
          }

      pub make_rest : (new : Disk) → new ≡ noted (SyncFolder, true) kept → IsAtRest new
      make_rest new is =
          subst IsAtRest (sym (is ∙ ap (noted (SyncFolder, true)) (is_kept ∙ ap (noted (Sync name, true)) is_made))) record {
            only = λ c left m. left.3 refl rest.calm m (all_synced m);
            calm = rest.calm;
            names = refl;
            synced = all_synced;
          }

      pub make_others : (new : Disk) → new ≡ noted (SyncFolder, true) kept → SameBut name (seen new) (seen disk)
      make_others new is m ne = ap (λ (d : Disk). seen d m) (is ∙ ap (noted (SyncFolder, true)) (is_kept ∙ ap (noted (Sync name, true)) is_made)) ∙ put_other name m _ (seen disk) ne

-- an open segment without a line
pub started : {F : Type 0} (disk : F → Disk) (log : Segment F) (room : ℕ) → LogStands (disk log.folder) (string_bytes log.name) [] [] room → log.synced ≡ 0 → log.length ≡ 0 → log.size ≡ room → IsOpen disk log × (appended disk log ≡ [])
started disk log room st synced_is length_is size_is = (
  opened disk log [] [] room st synced_is length_is (omega (arith, length_is, size_is)),
  opened_text disk log [] [] room st,
)

-- an open segment with the text that was found
pub recovered : {F : Type 0} (disk : F → Disk) (log : Segment F) (bytes : List ℕ) (found : Option (List ℕ)) (end : ℕ) → found ≡ Some bytes → take end bytes ≡ whole bytes → end ≤ length bytes
    → LogStands (disk log.folder) (string_bytes log.name) (whole bytes) [] (length bytes - end) → log.synced ≡ end → log.length ≡ end → log.size ≡ length bytes
    → IsOpen disk log × (appended disk log ≡ whole_in found) × (synced disk log ≡ appended disk log)
recovered disk log bytes found end is text within st synced_is length_is size_is =
    let all : length (whole bytes) ≡ end = ap length (sym text) ∙ length-take-le end bytes within in
    let told : appended disk log ≡ whole bytes = opened_text disk log (whole bytes) [] (length bytes - end) st ∙ append-nil (whole bytes) in (
      opened disk log (whole bytes) [] (length bytes - end) st (synced_is ∙ sym all) (omega (arith, length_is, all)) (omega (arith, length_is, size_is, within)),
      told ∙ ap whole_in (sym is),
      opened_synced disk log (whole bytes) [] (length bytes - end) st (synced_is ∙ sym all) ∙ sym told,
    )

-- ---- Reading a file piece by piece

-- the front of a file was read
abbrev pub HasRead : Option (List ℕ) → List ℕ → Type 0
HasRead file bytes = (all : List ℕ) → file ≡ Some all → (length bytes ≤ length all) × (bytes ≡ take (length bytes) all)

pub read_none : (file : Option (List ℕ)) → HasRead file []
read_none file all is = (omega arith, refl)

-- the file is there, where a part of it was read
there : (file : Option (List ℕ)) (at : ℕ) (into : List ℕ) (n : ℕ) → ReadsPart file at into n → (all : List ℕ) × (file ≡ Some all) × (n ≡ min (length into) (length all - at)) × (take n into ≡ take n (drop at all))
there None at into n part = absurd part
there (Some all) at into n part = (all, refl, part.0, part.1)

pub read_more : (file : Option (List ℕ)) (bytes into : List ℕ) (n : ℕ) → HasRead file bytes → ReadsPart file (length bytes) into n → HasRead file (bytes ++ take n into)
read_more file bytes into n so_far part all is =
    let p = there file (length bytes) into n part in
    let same : p.0 ≡ all = let e : Some p.0 ≡ Some all = sym p.1 ∙ is in cc e in
    let f = so_far all is in
    let count : n ≡ min (length into) (length all - length bytes) = subst (λ (l : List ℕ). n ≡ min (length into) (length l - length bytes)) same p.2 in
    let piece : take n into ≡ take n (drop (length bytes) all) = subst (λ (l : List ℕ). take n into ≡ take n (drop (length bytes) l)) same p.3 in
    let size : length (bytes ++ take n into) ≡ length bytes + n = length-append bytes (take n into) ∙ ap (λ (m : ℕ). length bytes + m) (length-take-le n into (omega (arith, count))) in (
      omega (arith, size, count, f.0),
      ap (λ (l : List ℕ). l ++ take n into) f.1 ∙ ap (λ (l : List ℕ). take (length bytes) all ++ l) piece ∙ sym (take-add (length bytes) n all) ∙ ap (λ (m : ℕ). take m all) (sym size),
    )

pub read_all : (file : Option (List ℕ)) (bytes into : List ℕ) (n : ℕ) → HasRead file bytes → ReadsPart file (length bytes) into n → n < length into → file ≡ Some (bytes ++ take n into)
read_all file bytes into n so_far part short =
    let p = there file (length bytes) into n part in
    let more = read_more file bytes into n so_far part p.0 p.1 in
    let f = so_far p.0 p.1 in
    let size : length (bytes ++ take n into) ≡ length bytes + n = length-append bytes (take n into) ∙ ap (λ (m : ℕ). length bytes + m) (length-take-le n into (omega (arith, short))) in
    p.1 ∙ ap (λ (l : List ℕ). Some l) (sym (more.1 ∙ take_all (length (bytes ++ take n into)) p.0 (omega (arith, size, p.2, f.0, short))))
