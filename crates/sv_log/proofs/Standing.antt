-- What the calls of a segment make of its file, and what a crash leaves of it.
use Rattle.std.proofs.Common.{◌≡◌, ◌≢◌, ◌⊎◌, inl, inr, ⊎_elim, ℕ, ◌+◌, ◌-◌, ◌≤◌, true, false, not, List, [], ◌∷◌, ◌++◌, length, take, drop, Option, Some, None, option_map, refl, sym, ◌∙◌, ap, subst, arith, append_assoc, length-append}
use Rattle.std.specs.Str.{bytes_eq}
use Rattle.std.specs.String.{string_bytes}
use Rattle.std.proofs.lemmas.Bool.{cases_Bool, cond-true, cond-false, false≢true, and_from, or_right, not_from_false, false_from_ne_true}
use Rattle.std.proofs.lemmas.List.{append-nil, take_at, drop_at, replicate-append-replicate, length-replicate, drop-replicate, drop-drop}
use Rattle.std.proofs.lemmas.Slice.Eq.{bytes_eq-Decides}
use Rattle.sv_log.specs.Pictures.{Picture, Grow, Write, Sync, Disk, seen, noted, put, over, zeros, FileHasRoom}
use Rattle.sv_log.specs.Crashes.{Same, SameBut, Torn, CrashLeaves, CrashMayLeave, MayWrite, is_synced}
use Rattle.sv_log.specs.Texts.{IsText, IsFront, Masked, whole, whole_in}
use Rattle.sv_log.specs.Rests.{IsAtRest}
use Rattle.sv_log.specs.Logs.{LogStands, Within, IsOpen, appended, synced, pending}
use Rattle.sv_log.specs.declared.segment.Segment.{Segment}
use Rattle.sv_log.proofs.Texts.{whole-append, whole_text, text-append, front_same, front_more, front_then, front-append, masked_front, torn_masked, masked-append, length_masked}

pub bytes_differ : (n name : List ℕ) → n ≢ name → bytes_eq n name ≡ false
bytes_differ n name ne = false_from_ne_true (bytes_eq n name) (λ same. ne ((bytes_eq-Decides n name).0 same))

pub bytes_same : (n : List ℕ) → bytes_eq n n ≡ true
bytes_same n = (bytes_eq-Decides n n).1 refl

pub put_same : (name : List ℕ) (file : Option (List ℕ)) (p : Picture) → put name file p name ≡ file
put_same name file p = cond-true (bytes_eq name name) file (p name) (bytes_same name)

pub put_other : (name n : List ℕ) (file : Option (List ℕ)) (p : Picture) → n ≢ name → put name file p n ≡ p n
put_other name n file p ne = cond-false (bytes_eq n name) file (p n) (bytes_differ n name ne)

-- zeros and more zeros
zeros_more : (x : List ℕ) (m n : ℕ) → x ++ zeros m ++ zeros n ≡ x ++ zeros (m + n)
zeros_more x m n = append_assoc x (zeros m) (zeros n) ∙ ap (λ (l : List ℕ). x ++ l) (replicate-append-replicate m n 0)

torn_within : (others : Picture) (name s p high torn : List ℕ) (r : ℕ) (c : Picture) → IsText s → SameBut name c others → Masked p torn → c name ≡ Some (s ++ torn ++ zeros r) → IsFront (s ++ p) high → Within others name s high c
torn_within others name s p high torn r c text same masked is front =
    let w : List ℕ = whole (torn ++ zeros r) in
    let gives : whole_in (c name) ≡ s ++ w = ap whole_in is ∙ ap whole (append_assoc s torn (zeros r)) ∙ whole-append s (torn ++ zeros r) text in (
      same,
      subst (λ (l : List ℕ). IsFront s l) (sym gives) (front_more s w),
      subst (λ (l : List ℕ). IsFront l high) (sym gives) (front_then (s ++ w) (s ++ p) high (front-append s w p (masked_front p torn r masked)) front),
      (s ++ torn ++ zeros r, is),
    )

pub within_same : (others : Picture) (name low high : List ℕ) (c d : Picture) → Same c d → Within others name low high d → Within others name low high c
within_same others name low high c d same w = (
  (λ n ne. same n ∙ w.0 n ne),
  subst (λ (o : Option (List ℕ)). IsFront low (whole_in o)) (sym (same name)) w.1,
  subst (λ (o : Option (List ℕ)). IsFront (whole_in o) high) (sym (same name)) w.2,
  (w.3.0, same name ∙ w.3.1),
)

pub none_some : (o : Option (List ℕ)) (x : List ℕ) → o ≡ Some x → o ≡ None → ⊥
none_some o x is none = absurd (cc (is, none))

pub surely : (o known : Option (List ℕ)) (x : List ℕ) → o ≡ Some x → (o ≡ None) ⊎ (o ≡ known) → o ≡ known
surely o known x is either = ⊎_elim (λ none. absurd (none_some o x is none)) (λ h. h) either

masked_none : (t : List ℕ) → Masked [] t → t ≡ []
masked_none [] m = refl
masked_none (b ∷ t) m = absurd m

-- where all of a file is synced, the folder is at rest
pub stands_rest : (disk : Disk) (name s : List ℕ) (r : ℕ) → LogStands disk name s [] r → is_synced disk.past name ≡ true → IsAtRest disk
stands_rest disk name s r st settled = record {
  only = λ c left n. elim (cases_Bool (bytes_eq n name)) [
    | inl same ↦
        let is : n ≡ name = (bytes_eq-Decides n name).0 same in
        let x = st.crash c left in
        let file : c name ≡ seen disk name = x.1.2 ∙ ap (λ (t : List ℕ). Some (s ++ t ++ zeros r)) (masked_none x.1.0 x.1.1) ∙ sym st.file in
        subst (λ (m : List ℕ). c m ≡ seen disk m) (sym is) file
    | inr other ↦ (st.crash c left).0 n (λ e. false≢true (sym other ∙ (bytes_eq-Decides n name).1 e))
  ];
  calm = st.calm;
  names = st.names;
  synced = λ n. elim (cases_Bool (bytes_eq n name)) [
    | inl same ↦ subst (λ (m : List ℕ). is_synced disk.past m ≡ true) (sym ((bytes_eq-Decides n name).0 same)) settled
    | inr other ↦ st.others n (λ e. false≢true (sym other ∙ (bytes_eq-Decides n name).1 e))
  ];
}

-- a file whose text is on the disk
pub rest_stands : (disk : Disk) (name s : List ℕ) (r : ℕ) → IsAtRest disk → IsText s → seen disk name ≡ Some (s ++ zeros r) → LogStands disk name s [] r
rest_stands disk name s r rest text file =
    let joined : seen disk name ≡ Some (s ++ [] ++ zeros r) = file ∙ ap (λ (l : List ℕ). Some (l ++ zeros r)) (sym (append-nil s)) in record {
      synced_text = text;
      pending_text = refl;
      file = joined;
      crash = λ c left. ((λ n ne. rest.only c left n), ([], tt, rest.only c left name ∙ joined));
      calm = rest.calm;
      names = rest.names;
      others = λ n ne. rest.synced n;
    }

module _ (disk : Disk) (name s p : List ℕ) (r : ℕ) (st : LogStands disk name s p r) where
  -- a crash now
  pub now_within : (high : List ℕ) → IsFront (s ++ p) high → (c : Picture) → CrashLeaves disk.start disk.past c → Within (seen disk) name s high c
  now_within high front c left =
      let x = st.crash c left in
      torn_within (seen disk) name s p high x.1.0 r c st.synced_text x.0 x.1.1 x.1.2 front

  -- while zeros are added
  pub grow_within : (n : ℕ) (high : List ℕ) → IsFront (s ++ p) high → (c d : Picture) → CrashLeaves disk.start disk.past d → CrashMayLeave (Grow name n) d c → Within (seen disk) name s high c
  grow_within n high front c d left step =
      let x = st.crash d left in
      let k = step.1.0 in
      let is : c name ≡ Some (s ++ x.1.0 ++ zeros (r + k)) =
      step.1.2 ∙ ap (option_map (λ (b : List ℕ). b ++ zeros k)) x.1.2 ∙ ap (λ (l : List ℕ). Some l) (zeros_more (s ++ x.1.0) r k) in
      torn_within (seen disk) name s p high x.1.0 (r + k) c st.synced_text (λ m ne. step.0 m ne ∙ x.0 m ne) x.1.1 is front

  -- while the file is synced
  pub sync_within : (high : List ℕ) → IsFront (s ++ p) high → (c d : Picture) → CrashLeaves disk.start disk.past d → CrashMayLeave (Sync name) d c → Within (seen disk) name s high c
  sync_within high front c d left same = within_same (seen disk) name s high c d same (now_within high front d left)

  pub file_joined : seen disk name ≡ Some (s ++ p ++ [] ++ zeros r)
  file_joined = st.file ∙ ap (λ (l : List ℕ). Some (l ++ zeros r)) (sym (append-nil (s ++ p)))

  -- once it is synced
  pub synced_stands : (new : Disk) → new ≡ noted (Sync name, true) disk → LogStands new name (s ++ p) [] r
  synced_stands new is = subst (λ (d : Disk). LogStands d name (s ++ p) [] r) (sym is) record {
    synced_text = text-append s p st.synced_text st.pending_text;
    pending_text = refl;
    file = file_joined;
    crash = λ c left.
        let x = st.crash left.0 left.1 in
        let is_some : c name ≡ Some (s ++ x.1.0 ++ zeros r) = left.2 name ∙ x.1.2 in
        let is_seen : c name ≡ seen disk name = surely (c name) (seen disk name) _ is_some (left.3 refl st.calm st.names) in (
          (λ n ne. left.2 n ∙ x.0 n ne),
          ([], tt, is_seen ∙ file_joined),
        );
    calm = st.calm;
    names = st.names;
    others = λ n ne. or_right (bytes_eq n name) _ (st.others n ne);
  }

  grown_file : (n : ℕ) → seen (noted (Grow name n, true) disk) name ≡ Some (s ++ p ++ [] ++ zeros (r + n))
  grown_file n =
      put_same name (option_map (λ b. b ++ zeros n) (seen disk name)) (seen disk) ∙ ap (option_map (λ (b : List ℕ). b ++ zeros n)) st.file
      ∙ ap (λ (l : List ℕ). Some l) (zeros_more (s ++ p) r n) ∙ ap (λ (l : List ℕ). Some (l ++ zeros (r + n))) (sym (append-nil (s ++ p)))

  -- once zeros were added and synced
  pub grown_stands : (n : ℕ) (new : Disk) → new ≡ noted (Sync name, true) (noted (Grow name n, true) disk) → LogStands new name (s ++ p) [] (r + n)
  grown_stands n new is = subst (λ (d : Disk). LogStands d name (s ++ p) [] (r + n)) (sym is) record {
    synced_text = text-append s p st.synced_text st.pending_text;
    pending_text = refl;
    file = grown_file n;
    crash = λ c left.
        let e = left.1 in
        let x = st.crash e.0 e.1 in
        let k = e.2.1.0 in
        let is_some : c name ≡ Some (s ++ x.1.0 ++ zeros r ++ zeros k) = left.2 name ∙ e.2.1.2 ∙ ap (option_map (λ (b : List ℕ). b ++ zeros k)) x.1.2 in
        let is_seen : c name ≡ seen (noted (Grow name n, true) disk) name = surely (c name) _ _ is_some (left.3 refl st.calm st.names) in (
          (λ m ne. left.2 m ∙ e.2.0 m ne ∙ x.0 m ne ∙ sym (put_other name m _ (seen disk) ne)),
          ([], tt, is_seen ∙ grown_file n),
        );
    calm = st.calm;
    names = st.names;
    others = λ m ne. or_right (bytes_eq m name) _ (and_from (not (bytes_eq m name)) _ (not_from_false (bytes_eq m name) (bytes_differ m name ne)) (st.others m ne));
  }

  -- after zeros were added: now, and while the file is synced
  pub grown_within_again : (n : ℕ) (high : List ℕ) → IsFront (s ++ p) high → (mid : Disk) → mid ≡ noted (Grow name n, true) disk
      → ((c : Picture) → CrashLeaves mid.start mid.past c → Within (seen disk) name s high c) × ((c d : Picture) → CrashLeaves mid.start mid.past d → CrashMayLeave (Sync name) d c → Within (seen disk) name s high c)
  grown_within_again n high front mid is =
      let now : (c : Picture) → CrashLeaves mid.start mid.past c → Within (seen disk) name s high c = λ c left.
      let e = subst (λ (m : Disk). CrashLeaves m.start m.past c) is left in grow_within n high front c e.0 e.1 e.2 in
      (now, (λ c d left same. within_same (seen disk) name s high c d same (now d left)))

  module _ (lines : List ℕ) (at : ℕ) (is_at : at ≡ length s + length p) (fits : length lines ≤ r) where
    over_torn : (t u : List ℕ) → length t ≡ length p → length u ≡ length lines → over at u (s ++ t ++ zeros r) ≡ s ++ (t ++ u) ++ zeros (r - length lines)
    over_torn t u size same =
        let front : length (s ++ t) ≡ at = omega (arith, length-append s t, size, is_at) in
        let behind : drop (at + length u) (s ++ t ++ zeros r) ≡ zeros (r - length lines) =
        ap (λ (m : ℕ). drop m (s ++ t ++ zeros r)) (let e : at + length u ≡ at + length lines = omega (arith, same) in e)
        ∙ drop_behind (s ++ t) at (length lines) front in
        ap (λ (l : List ℕ). l ++ u ++ drop (at + length u) (s ++ t ++ zeros r)) (take_at (s ++ t) (zeros r) at front)
        ∙ ap (λ (l : List ℕ). s ++ t ++ u ++ l) behind ∙ ap (λ (l : List ℕ). l ++ zeros (r - length lines)) (append_assoc s t u)
      where
        drop_behind : (x : List ℕ) (n m : ℕ) → length x ≡ n → drop (n + m) (x ++ zeros r) ≡ zeros (r - m)
        drop_behind x n m size = sym (drop-drop m n (x ++ zeros r)) ∙ ap (drop m) (drop_at x (zeros r) n size) ∙ drop-replicate m r 0

    -- a torn write over the zeros
    torn_write : (t : List ℕ) (c : Picture) (d : Picture) → Masked p t → d name ≡ Some (s ++ t ++ zeros r) → MayWrite at lines (d name) (c name)
        → (torn : List ℕ) × Masked (p ++ lines) torn × (c name ≡ Some (s ++ torn ++ zeros (r - length lines)))
    torn_write t c d masked is step =
        let w = subst (λ (o : Option (List ℕ)). MayWrite at lines o (c name)) is step in
        let u = w.0 in
        let front : length (s ++ t) ≡ at = omega (arith, length-append s t, length_masked p t masked, is_at) in
        let torn : Masked lines u = torn_masked r lines u (subst (λ (l : List ℕ). Torn l lines u) (drop_at (s ++ t) (zeros r) at front) w.1) fits in
        (t ++ u, masked-append p t lines u masked torn, w.2 ∙ ap (λ (l : List ℕ). Some l) (over_torn t u (length_masked p t masked) (length_masked lines u torn)))

    -- while lines are written
    pub write_within : (c d : Picture) → CrashLeaves disk.start disk.past d → CrashMayLeave (Write name at lines) d c → Within (seen disk) name s (s ++ p ++ lines) c
    write_within c d left step =
        let x = st.crash d left in
        let w = torn_write x.1.0 c d x.1.1 x.1.2 step.1 in
        torn_within (seen disk) name s (p ++ lines) (s ++ p ++ lines) w.0 (r - length lines) c st.synced_text (λ m ne. step.0 m ne ∙ x.0 m ne) w.1 w.2
        (subst (λ (l : List ℕ). IsFront l (s ++ p ++ lines)) (append_assoc s p lines) (front_same (s ++ p ++ lines)))

    -- once they are written
    pub written_stands : IsText lines → (new : Disk) → new ≡ noted (Write name at lines, true) disk → LogStands new name s (p ++ lines) (r - length lines)
    written_stands text new is = subst (λ (d : Disk). LogStands d name s (p ++ lines) (r - length lines)) (sym is) record {
      synced_text = st.synced_text;
      pending_text = text-append p lines st.pending_text text;
      file =
          put_same name (option_map (over at lines) (seen disk name)) (seen disk) ∙ ap (option_map (over at lines)) st.file
          ∙ ap (λ (l : List ℕ). Some l) (over_torn p lines refl refl);
      crash = λ c left.
          let x = st.crash left.0 left.1 in
          let w = torn_write x.1.0 c left.0 x.1.1 x.1.2 left.2.1 in (
            (λ m ne. left.2.0 m ne ∙ x.0 m ne ∙ sym (put_other name m _ (seen disk) ne)),
            w,
          );
      calm = st.calm;
      names = st.names;
      others = λ m ne. and_from (not (bytes_eq m name)) _ (not_from_false (bytes_eq m name) (bytes_differ m name ne)) (st.others m ne);
    }

    pub has_room : FileHasRoom (seen disk) name at (length lines)
    has_room = (s ++ p ++ zeros r, st.file, omega (arith, length-append (s ++ p) (zeros r), length-append s p, length-replicate {A = ℕ} r 0, is_at, fits))

-- a segment whose file stands so is open
module _ {F : Type 0} (disk : F → Disk) (log : Segment F) (s p : List ℕ) (r : ℕ) (st : LogStands (disk log.folder) (string_bytes log.name) s p r) where
  pub opened_text : appended disk log ≡ s ++ p
  opened_text = ap whole_in st.file ∙ whole_text (s ++ p) r (text-append s p st.synced_text st.pending_text)

  module _ (size : log.synced ≡ length s) where
    pub opened_synced : synced disk log ≡ s
    opened_synced = ap (take log.synced) opened_text ∙ take_at s p log.synced (sym size)

    opened_pending : pending disk log ≡ p
    opened_pending = ap (drop log.synced) opened_text ∙ drop_at s p log.synced (sym size)

    pub opened : log.length ≡ length s + length p → log.size ≡ log.length + r → IsOpen disk log
    opened long room =
        let rest : r ≡ log.size - log.length = omega (arith, room) in
        record {
          stands =
              subst (λ (x : List ℕ). LogStands (disk log.folder) (string_bytes log.name) x (pending disk log) (log.size - log.length)) (sym opened_synced)
              (subst (λ (x : List ℕ). LogStands (disk log.folder) (string_bytes log.name) s x (log.size - log.length)) (sym opened_pending)
              (subst (λ (x : ℕ). LogStands (disk log.folder) (string_bytes log.name) s p x) rest st));
          size = long ∙ sym (length-append s p) ∙ ap length (sym opened_text);
          part = omega (arith, size, long);
          within = omega (arith, room);
        }
