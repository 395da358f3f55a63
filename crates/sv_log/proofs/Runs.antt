-- What the calls of a segment leave, from one that is open.
use Rattle.std.proofs.Common.{◌≡◌, ℕ, ◌+◌, ◌-◌, ◌≤◌, true, List, [], ◌++◌, length, Result, Ok, refl, sym, ◌∙◌, ap, subst, arith, append_assoc, length-append, length-take-le, take-append-drop}
use Rattle.std.specs.String.{string_bytes}
use Rattle.std.proofs.lemmas.List.{append-nil}
use Rattle.sv_log.specs.Pictures.{Picture, Grow, Write, Sync, Disk, seen, noted, Makes, FileHasRoom}
use Rattle.sv_log.specs.Crashes.{SameBut, LeavesOnly, is_synced}
use Rattle.sv_log.specs.Texts.{IsText, IsFront, whole_in}
use Rattle.sv_log.specs.Logs.{LogStands, Within, IsOpen, appended, synced, pending}
use Rattle.sv_log.specs.declared.segment.Segment.{Segment}
use Rattle.sv_log.proofs.Texts.{front_same, front_more, front_then}
use Rattle.sv_log.proofs.Moments.{made_only, then_only, same_only, weaker_only}
use Rattle.sv_log.proofs.Standing.{now_within, grow_within, sync_within, write_within, synced_stands, grown_stands, written_stands, grown_within_again, has_room, opened, opened_text, opened_synced, put_other, bytes_same, stands_rest}
use Rattle.std.specs.Str.{bytes_eq}
use Rattle.std.proofs.lemmas.Bool.{or_left}
use Rattle.sv_log.specs.Rests.{IsAtRest}

module _ {F : Type 0} (disk : F → Disk) (old : Segment F) (is_open : IsOpen disk old) where
  abbrev s : List ℕ
  s = synced disk old

  abbrev p : List ℕ
  p = pending disk old

  abbrev room : ℕ
  room = old.size - old.length

  abbrev name : List ℕ
  name = string_bytes old.name

  parts : s ++ p ≡ appended disk old
  parts = take-append-drop old.synced (appended disk old)

  synced_size : old.synced ≡ length s
  synced_size = sym (length-take-le old.synced (appended disk old) (omega (arith, is_open.part, is_open.size)))

  at_end : old.length ≡ length s + length p
  at_end = omega (arith, is_open.size, ap length parts, length-append s p)

  -- the segment after a call
  abbrev pub changed : F → ℕ → ℕ → ℕ → Segment F
  changed folder synced length size = record { folder = folder; name = old.name; synced = synced; length = length; size = size; spare = old.spare }

  -- of the segment as it is
  whole_front : IsFront (s ++ p) (appended disk old)
  whole_front = subst (λ (l : List ℕ). IsFront (s ++ p) l) parts (front_same (s ++ p))

  module _ (called : List ℕ) (is_called : called ≡ name) where
    pub room_to_write : (lines : List ℕ) → length lines ≤ room → FileHasRoom (seen (disk old.folder)) called old.length (length lines)
    room_to_write lines fits =
        subst (λ (n : List ℕ). FileHasRoom (seen (disk old.folder)) n old.length (length lines)) (sym is_called)
        (has_room (disk old.folder) name s p room is_open.stands lines old.length at_end fits)

    pub room_to_grow : FileHasRoom (seen (disk old.folder)) called 0 0
    room_to_grow = subst (λ (n : List ℕ). FileHasRoom (seen (disk old.folder)) n 0 0) (sym is_called) (_, is_open.stands.file, omega arith)

    -- a write at any moment
    pub write_only : {T E : Type 0} (lines : List ℕ) (new : Disk) (result : Result T E) → length lines ≤ room → Makes (Write called old.length lines) (disk old.folder) new result
        → LeavesOnly (disk old.folder) new (Within (seen (disk old.folder)) name s (appended disk old ++ lines))
    write_only lines new result fits makes =
        subst (λ (l : List ℕ). LeavesOnly (disk old.folder) new (Within (seen (disk old.folder)) name s (l ++ lines))) parts
        (made_only (disk old.folder) new (Write name old.length lines) result (Within (seen (disk old.folder)) name s (s ++ p ++ lines))
        (subst (λ (n : List ℕ). Makes (Write n old.length lines) (disk old.folder) new result) is_called makes)
        (now_within (disk old.folder) name s p room is_open.stands (s ++ p ++ lines) (front_more (s ++ p) lines))
        (write_within (disk old.folder) name s p room is_open.stands lines old.length at_end fits))

    -- a sync at any moment
    pub sync_only : {T E : Type 0} (new : Disk) (result : Result T E) → Makes (Sync called) (disk old.folder) new result
        → LeavesOnly (disk old.folder) new (Within (seen (disk old.folder)) name s (appended disk old))
    sync_only new result makes =
        made_only (disk old.folder) new (Sync name) result (Within (seen (disk old.folder)) name s (appended disk old))
        (subst (λ (n : List ℕ). Makes (Sync n) (disk old.folder) new result) is_called makes)
        (now_within (disk old.folder) name s p room is_open.stands (appended disk old) whole_front)
        (sync_within (disk old.folder) name s p room is_open.stands (appended disk old) whole_front)

    pub grow_only : {T E : Type 0} (n : ℕ) (new : Disk) (result : Result T E) → Makes (Grow called n) (disk old.folder) new result
        → LeavesOnly (disk old.folder) new (Within (seen (disk old.folder)) name s (appended disk old))
    grow_only n new result makes =
        made_only (disk old.folder) new (Grow name n) result (Within (seen (disk old.folder)) name s (appended disk old))
        (subst (λ (m : List ℕ). Makes (Grow m n) (disk old.folder) new result) is_called makes)
        (now_within (disk old.folder) name s p room is_open.stands (appended disk old) whole_front)
        (grow_within (disk old.folder) name s p room is_open.stands n (appended disk old) whole_front)

    -- a sync after zeros were added
    pub grow_sync_only : {T E : Type 0} (n : ℕ) (mid new : Disk) (result : Result T E) → mid ≡ noted (Grow called n, true) (disk old.folder) → Makes (Sync called) mid new result
        → LeavesOnly (disk old.folder) new (Within (seen (disk old.folder)) name s (appended disk old))
    grow_sync_only n mid new result is makes =
        let grown : mid ≡ noted (Grow name n, true) (disk old.folder) = subst (λ (m : List ℕ). mid ≡ noted (Grow m n, true) (disk old.folder)) is_called is in
        let P = Within (seen (disk old.folder)) name s (appended disk old) in
        let again = grown_within_again (disk old.folder) name s p room is_open.stands n (appended disk old) whole_front mid grown in
        then_only (disk old.folder) mid new P (grow_only {T = ℕ} {E = ℕ} n mid (Ok 0) is)
        (made_only mid new (Sync name) result P (subst (λ (m : List ℕ). Makes (Sync m) mid new result) is_called makes) again.0 again.1)

  module _ (folder : F) (now : ℕ) (lines : List ℕ) (text : IsText lines) (fits : length lines ≤ room) (called : List ℕ) (is_called : called ≡ name)
      (is : disk folder ≡ noted (Write called old.length lines, true) (disk old.folder)) (now_is : now ≡ old.length + length lines) where
    abbrev wrote : Segment F
    wrote = changed folder old.synced now old.size

    written_is : disk folder ≡ noted (Write name old.length lines, true) (disk old.folder)
    written_is = subst (λ (n : List ℕ). disk folder ≡ noted (Write n old.length lines, true) (disk old.folder)) is_called is

    written : LogStands (disk folder) name s (p ++ lines) (room - length lines)
    written = written_stands (disk old.folder) name s p room is_open.stands lines old.length at_end fits text (disk folder) written_is

    pub write_open : IsOpen disk wrote
    write_open =
        opened disk wrote s (p ++ lines) (room - length lines) written synced_size
        (omega (arith, now_is, at_end, length-append p lines))
        (omega (arith, now_is, is_open.within, fits))

    pub write_text : appended disk wrote ≡ appended disk old ++ lines
    write_text = opened_text disk wrote s (p ++ lines) (room - length lines) written ∙ sym (append_assoc s p lines) ∙ ap (λ (l : List ℕ). l ++ lines) parts

    pub write_synced : synced disk wrote ≡ s
    write_synced = opened_synced disk wrote s (p ++ lines) (room - length lines) written synced_size

    pub write_others : SameBut name (seen (disk folder)) (seen (disk old.folder))
    write_others n ne = ap (λ (d : Disk). seen d n) written_is ∙ put_other name n _ (seen (disk old.folder)) ne

  -- a segment all of whose text is synced
  module _ (folder : F) (size r : ℕ) (st : LogStands (disk folder) name (s ++ p) [] r) (size_is : size ≡ old.length + r) where
    abbrev settled : Segment F
    settled = changed folder old.length old.length size

    all_size : old.length ≡ length (s ++ p)
    all_size = omega (arith, at_end, length-append s p)

    pub all_open : IsOpen disk settled
    all_open = opened disk settled (s ++ p) [] r st all_size (omega (arith, all_size)) (omega (arith, size_is))

    pub all_text : appended disk settled ≡ appended disk old
    all_text = opened_text disk settled (s ++ p) [] r st ∙ append-nil (s ++ p) ∙ parts

    pub all_synced : synced disk settled ≡ appended disk old
    all_synced = opened_synced disk settled (s ++ p) [] r st all_size ∙ parts

    pub all_synced_front : IsFront s (synced disk settled)
    all_synced_front = subst (λ (l : List ℕ). IsFront s l) (sym (opened_synced disk settled (s ++ p) [] r st all_size)) (front_more s p)

  module _ (folder : F) (called : List ℕ) (is_called : called ≡ name) where
    pub sync_stands : disk folder ≡ noted (Sync called, true) (disk old.folder) → LogStands (disk folder) name (s ++ p) [] room
    sync_stands is =
        synced_stands (disk old.folder) name s p room is_open.stands (disk folder)
        (subst (λ (n : List ℕ). disk folder ≡ noted (Sync n, true) (disk old.folder)) is_called is)

    pub sync_rest : disk folder ≡ noted (Sync called, true) (disk old.folder) → IsAtRest (disk folder)
    sync_rest is =
        let named : disk folder ≡ noted (Sync name, true) (disk old.folder) = subst (λ (n : List ℕ). disk folder ≡ noted (Sync n, true) (disk old.folder)) is_called is in
        stands_rest (disk folder) name (s ++ p) room (sync_stands is)
        (subst (λ (d : Disk). is_synced d.past name ≡ true) (sym named) (or_left (bytes_eq name name) (is_synced (disk old.folder).past name) (bytes_same name)))

    pub sync_others : disk folder ≡ noted (Sync called, true) (disk old.folder) → SameBut name (seen (disk folder)) (seen (disk old.folder))
    sync_others is n ne = ap (λ (d : Disk). seen d n) is

    module _ (mid : Disk) (n : ℕ) (grown : mid ≡ noted (Grow called n, true) (disk old.folder)) (is : disk folder ≡ noted (Sync called, true) mid) where
      both_are : disk folder ≡ noted (Sync name, true) (noted (Grow name n, true) (disk old.folder))
      both_are = subst (λ (m : List ℕ). disk folder ≡ noted (Sync m, true) (noted (Grow m n, true) (disk old.folder))) is_called (is ∙ ap (noted (Sync called, true)) grown)

      pub grow_stands : LogStands (disk folder) name (s ++ p) [] (room + n)
      grow_stands = grown_stands (disk old.folder) name s p room is_open.stands n (disk folder) both_are

      pub grow_others : SameBut name (seen (disk folder)) (seen (disk old.folder))
      grow_others m ne = ap (λ (d : Disk). seen d m) both_are ∙ put_other name m _ (seen (disk old.folder)) ne

  pub within_room : old.size ≡ old.length + room
  within_room = omega (arith, is_open.within)

  pub calm_only : LeavesOnly (disk old.folder) (disk old.folder) (Within (seen (disk old.folder)) name s (appended disk old))
  calm_only = same_only (disk old.folder) (disk old.folder) _ refl (now_within (disk old.folder) name s p room is_open.stands (appended disk old) whole_front)

  -- what is synced is a front of what was appended
  pub synced_front : IsFront s (appended disk old)
  synced_front = subst (λ (l : List ℕ). IsFront s l) parts (front_more s p)

-- one run of a segment, and then a write
module _ {F : Type 0} (disk : F → Disk) (old mid new : Segment F) (lines : List ℕ) (same_name : mid.name ≡ old.name) where
  abbrev Grows : Picture → Type 0
  Grows = Within (seen (disk old.folder)) (string_bytes old.name) (synced disk old) (appended disk old ++ lines)

  pub ready_only : LeavesOnly (disk old.folder) (disk mid.folder) (Within (seen (disk old.folder)) (string_bytes old.name) (synced disk old) (appended disk old)) → LeavesOnly (disk old.folder) (disk mid.folder) Grows
  ready_only only =
      weaker_only (disk old.folder) (disk mid.folder) _ Grows
      (λ c w. (w.0, w.1, front_then (whole_in (c (string_bytes old.name))) (appended disk old) (appended disk old ++ lines) w.2 (front_more (appended disk old) lines), w.3)) only

  module _ (text : appended disk mid ≡ appended disk old) (front : IsFront (synced disk old) (synced disk mid)) (others : SameBut (string_bytes old.name) (seen (disk mid.folder)) (seen (disk old.folder))) where
    moved : (c : Picture) → Within (seen (disk mid.folder)) (string_bytes mid.name) (synced disk mid) (appended disk mid ++ lines) c → Grows c
    moved c w =
        let v = subst (λ (n : _). Within (seen (disk mid.folder)) (string_bytes n) (synced disk mid) (appended disk mid ++ lines) c) same_name w in (
          (λ n ne. v.0 n ne ∙ others n ne),
          front_then (synced disk old) (synced disk mid) (whole_in (c (string_bytes old.name))) front v.1,
          subst (λ (l : List ℕ). IsFront (whole_in (c (string_bytes old.name))) (l ++ lines)) text v.2,
          v.3,
        )

    pub append_only : LeavesOnly (disk old.folder) (disk mid.folder) (Within (seen (disk old.folder)) (string_bytes old.name) (synced disk old) (appended disk old))
        → LeavesOnly (disk mid.folder) (disk new.folder) (Within (seen (disk mid.folder)) (string_bytes mid.name) (synced disk mid) (appended disk mid ++ lines)) → LeavesOnly (disk old.folder) (disk new.folder) Grows
    append_only first second =
        then_only (disk old.folder) (disk mid.folder) (disk new.folder) Grows (ready_only first)
        (weaker_only (disk mid.folder) (disk new.folder) _ Grows moved second)

    pub append_text : appended disk new ≡ appended disk mid ++ lines → appended disk new ≡ appended disk old ++ lines
    append_text is = is ∙ ap (λ (l : List ℕ). l ++ lines) text

    pub append_synced : synced disk new ≡ synced disk mid → IsFront (synced disk old) (synced disk new)
    append_synced is = subst (λ (l : List ℕ). IsFront (synced disk old) l) (sym is) front

    pub append_others : SameBut (string_bytes mid.name) (seen (disk new.folder)) (seen (disk mid.folder)) → SameBut (string_bytes old.name) (seen (disk new.folder)) (seen (disk old.folder))
    append_others same n ne = same n (λ (e : n ≡ string_bytes mid.name). ne (e ∙ ap string_bytes same_name)) ∙ others n ne
