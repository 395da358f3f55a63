-- What a crash leaves while a whole file is put into a folder.
use Rattle.std.proofs.Common.{◌≡◌, ◌≢◌, ◌⊎◌, inl, inr, ⊎_elim, ℕ, ◌+◌, ◌≤◌, Bool, true, false, cond, not, List, [], ◌∷◌, ◌++◌, length, take, drop, Option, Some, None, option_map, Result, Ok, Err, refl, sym, ◌∙◌, ap, subst, arith}
use Rattle.std.specs.Str.{bytes_eq}
use Rattle.std.proofs.lemmas.Bool.{cases_Bool, cond_both, and_from, or_left, or_right, not_from_false}
use Rattle.std.proofs.lemmas.List.{append-nil, drop_all, length-replicate}
use Rattle.sv_log.specs.Pictures.{Picture, Call, Make, Write, Rename, Sync, SyncFolder, Made, Disk, seen, seen_after, noted, put, after, over, zeros, FileHasRoom, Makes}
use Rattle.sv_log.specs.Crashes.{Same, SameBut, CrashLeaves, CrashMayLeave, LeavesOnly, is_synced}
use Rattle.sv_log.specs.Rests.{IsAtRest, IsPut}
use Rattle.sv_log.proofs.Moments.{made_only, then_only}
use Rattle.sv_log.proofs.Standing.{bytes_differ, bytes_same, put_same, put_other}

module _ (disk : Disk) (name new bytes : List ℕ) (rest : IsAtRest disk) where
  abbrev n : ℕ
  n = length bytes

  abbrev whole_put : Picture
  whole_put = put name (Some bytes) (seen disk)

  abbrev P : Picture → Type 0
  P = IsPut new name bytes (seen disk)

  abbrev first : Disk
  first = noted (Make new n, true) disk

  abbrev second : Disk
  second = noted (Write new 0 bytes, true) first

  abbrev third : Disk
  third = noted (Sync new, true) second

  abbrev fourth : Disk
  fourth = noted (Rename new name, true) third

  -- until the file gets its name nothing else changes
  start_quiet : (c : Picture) → CrashLeaves disk.start disk.past c → SameBut new c (seen disk)
  start_quiet c left m ne = rest.only c left m

  make_quiet : (c d : Picture) → CrashLeaves disk.start disk.past d → CrashMayLeave (Make new n) d c → SameBut new c (seen disk)
  make_quiet c d left step m ne = step.0 m ne ∙ start_quiet d left m ne

  first_quiet : (c : Picture) → CrashLeaves first.start first.past c → SameBut new c (seen disk)
  first_quiet c left = make_quiet c left.0 left.1 left.2

  write_quiet : (c d : Picture) → CrashLeaves first.start first.past d → CrashMayLeave (Write new 0 bytes) d c → SameBut new c (seen disk)
  write_quiet c d left step m ne = step.0 m ne ∙ first_quiet d left m ne

  second_quiet : (c : Picture) → CrashLeaves second.start second.past c → SameBut new c (seen disk)
  second_quiet c left = write_quiet c left.0 left.1 left.2

  sync_quiet : (c d : Picture) → CrashLeaves second.start second.past d → CrashMayLeave (Sync new) d c → SameBut new c (seen disk)
  sync_quiet c d left same m ne = same m ∙ second_quiet d left m ne

  third_quiet : (c : Picture) → CrashLeaves third.start third.past c → SameBut new c (seen disk)
  third_quiet c left = sync_quiet c left.0 left.1 left.2

  over_zeros : over 0 bytes (zeros n) ≡ bytes
  over_zeros = ap (λ (l : List ℕ). bytes ++ l) (drop_all (0 + n) (zeros n) (omega (arith, length-replicate {A = ℕ} n 0))) ∙ append-nil bytes

  second_file : seen second new ≡ Some bytes
  second_file =
      put_same new (option_map (over 0 bytes) (seen first new)) (seen first) ∙ ap (option_map (over 0 bytes)) (put_same new (Some (zeros n)) (seen disk))
      ∙ ap (λ (l : List ℕ). Some l) over_zeros

  third_file : (c : Picture) → CrashLeaves third.start third.past c → (c new ≡ None) ⊎ (c new ≡ Some bytes)
  third_file c left = ⊎_elim (λ none. inl none) (λ is. inr (is ∙ second_file)) (left.3 refl rest.calm rest.names)

  renamed : (d : Picture) (m : List ℕ) → m ≢ new → d new ≡ Some bytes → d m ≡ seen disk m → after (Rename new name) d m ≡ whole_put m
  renamed d m ne file same =
      ap (λ (o : Option (List ℕ)). cond (bytes_eq m name) o (put new None d m)) file
      ∙ ap (λ (o : Option (List ℕ)). cond (bytes_eq m name) (Some bytes) o) (put_other new m None d ne ∙ same)

  rename_put : (c d : Picture) → CrashLeaves third.start third.past d → CrashMayLeave (Rename new name) d c → P c
  rename_put c d left step =
      ⊎_elim (λ (same : Same c d). inl (λ m ne. same m ∙ third_quiet d left m ne))
      (λ (moved : (d new ≢ None) × Same c (after (Rename new name) d)). inr (λ m ne.
      let file : d new ≡ Some bytes = ⊎_elim (λ none. absurd (moved.0 none)) (λ is. is) (third_file d left) in
      moved.1 m ∙ renamed d m ne file (third_quiet d left m ne))) step

  fourth_put : (c : Picture) → CrashLeaves fourth.start fourth.past c → P c
  fourth_put c left = rename_put c left.0 left.1 left.2

  same_put : (c d : Picture) → Same c d → P d → P c
  same_put c d same put_d = ⊎_elim (λ (q : SameBut new d (seen disk)). inl (λ m ne. same m ∙ q m ne)) (λ (q : SameBut new d whole_put). inr (λ m ne. same m ∙ q m ne)) put_d

  -- the run up to each call
  pub put_making : {T E : Type 0} (b : Disk) (result : Result T E) → Makes (Make new n) disk b result → LeavesOnly disk b P
  put_making b result makes = made_only disk b (Make new n) result P makes (λ c left. inl (start_quiet c left)) (λ c d left step. inl (make_quiet c d left step))

  pub put_writing : {T E : Type 0} (a b : Disk) (result : Result T E) → a ≡ first → Makes (Write new 0 bytes) a b result → LeavesOnly disk b P
  put_writing a b result is makes =
      then_only disk first b P (put_making {T = ℕ} {E = ℕ} first (Ok 0) refl)
      (made_only first b (Write new 0 bytes) result P (subst (λ (x : Disk). Makes (Write new 0 bytes) x b result) is makes) (λ c left. inl (first_quiet c left)) (λ c d left step. inl (write_quiet c d left step)))

  pub put_syncing : {T E : Type 0} (a b : Disk) (result : Result T E) → a ≡ second → Makes (Sync new) a b result → LeavesOnly disk b P
  put_syncing a b result is makes =
      then_only disk second b P (put_writing {T = ℕ} {E = ℕ} first second (Ok 0) refl refl)
      (made_only second b (Sync new) result P (subst (λ (x : Disk). Makes (Sync new) x b result) is makes) (λ c left. inl (second_quiet c left)) (λ c d left step. inl (sync_quiet c d left step)))

  pub put_renaming : {T E : Type 0} (a b : Disk) (result : Result T E) → a ≡ third → Makes (Rename new name) a b result → LeavesOnly disk b P
  put_renaming a b result is makes =
      then_only disk third b P (put_syncing {T = ℕ} {E = ℕ} second third (Ok 0) refl refl)
      (made_only third b (Rename new name) result P (subst (λ (x : Disk). Makes (Rename new name) x b result) is makes) (λ c left. inl (third_quiet c left)) rename_put)

  pub put_naming : {T E : Type 0} (a b : Disk) (result : Result T E) → a ≡ fourth → Makes SyncFolder a b result → LeavesOnly disk b P
  put_naming a b result is makes =
      then_only disk fourth b P (put_renaming {T = ℕ} {E = ℕ} third fourth (Ok 0) refl refl)
      (made_only fourth b SyncFolder result P (subst (λ (x : Disk). Makes SyncFolder x b result) is makes) fourth_put (λ c d left same. same_put c d same (fourth_put d left)))

  pub first_room : FileHasRoom (seen first) new 0 n
  first_room = (zeros n, put_same new (Some (zeros n)) (seen disk), omega (arith, length-replicate {A = ℕ} n 0))

  pub third_room : FileHasRoom (seen third) new 0 0
  third_room = (bytes, second_file, omega arith)

  -- at the end it is there, and on the disk
  third_synced : (m : List ℕ) → is_synced third.past m ≡ true
  third_synced m =
      ⊎_elim (λ (same : bytes_eq m new ≡ true). or_left (bytes_eq m new) _ same)
      (λ (other : bytes_eq m new ≡ false).
      let no = not_from_false (bytes_eq m new) other in or_right (bytes_eq m new) _ (and_from (not (bytes_eq m new)) _ no (and_from (not (bytes_eq m new)) _ no (rest.synced m))))
      (cases_Bool (bytes_eq m new))

  all_synced : (m : List ℕ) → is_synced fourth.past m ≡ true
  all_synced m = cond_both (bytes_eq m name) (is_synced third.past new) (is_synced third.past m) (λ (b : Bool). b ≡ true) (λ h. third_synced new) (λ h. third_synced m)

  fourth_seen : SameBut new (seen fourth) whole_put
  fourth_seen m ne = renamed (seen third) m ne second_file (put_other new m _ (seen first) ne ∙ put_other new m _ (seen disk) ne)

  pub put_rest : (last : Disk) → last ≡ noted (SyncFolder, true) fourth → IsAtRest last × SameBut new (seen last) whole_put
  put_rest last is = subst (λ (d : Disk). IsAtRest d × SameBut new (seen d) whole_put) (sym is) (
    record {
      only = λ c left m. left.3 refl rest.calm m (all_synced m);
      calm = rest.calm;
      names = refl;
      synced = all_synced;
    },
    fourth_seen,
  )
