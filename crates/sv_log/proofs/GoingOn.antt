-- What a crash leaves while a log goes on in its next segment, and what it is then.
use Rattle.std.proofs.Common.{◌≡◌, ◌≢◌, ◌⊎◌, inl, inr, ⊎_elim, ℕ, ◌+◌, ◌-◌, ◌^◌, ◌<◌, List, [], ◌∷◌, ◌++◌, length, drop, Option, Some, None, String, Vec, refl, sym, ◌∙◌, ap, subst, arith, append_assoc, take-append-drop}
use Rattle.std.specs.Str.{bytes_eq}
use Rattle.std.specs.String.{string_bytes}
use Rattle.std.specs.declared.alloc.Global.{Global}
use Rattle.std.proofs.lemmas.Bool.{cases_Bool, false≢true}
use Rattle.std.proofs.lemmas.List.{append-nil}
use Rattle.std.proofs.lemmas.Slice.Eq.{bytes_eq-Decides}
use Rattle.sv_log.specs.Pictures.{Picture, Disk, seen, put, zeros}
use Rattle.sv_log.specs.Crashes.{SameBut, LeavesOnly}
use Rattle.sv_log.specs.Texts.{IsFront, whole, whole_in}
use Rattle.sv_log.specs.Rests.{IsAtRest, Tells, Mends, SegmentGoesOn}
use Rattle.sv_log.specs.Logs.{LogStands, IsOpen, appended, synced, pending}
use Rattle.sv_log.specs.Names.{segment_name, world_name, IsNumber}
use Rattle.sv_log.specs.Chains.{StateFile, lines, text_at, text_of, state_at, IsLog, HasLog, KeepsLog}
use Rattle.sv_log.specs.OpenLogs.{IsOpenLog, shown, newest, log_text, log_synced}
use Rattle.sv_log.specs.declared.segment.Segment.{Segment}
use Rattle.sv_log.specs.declared.log.Log.{Log}
use Rattle.sv_log.proofs.Texts.{front_same, front-append}
use Rattle.sv_log.proofs.Standing.{put_same, put_other}
use Rattle.sv_log.proofs.Moments.{weaker_only, then_only}
use Rattle.sv_log.proofs.Started.{started}
use Rattle.sv_log.proofs.Chained.{text_in, lines_at, state_same, log_moved, text_moved, state_moved, world_moved}
use Rattle.sv_log.proofs.Numbers.{segment_injective, segment_state, segment_world}
use Rattle.sv_log.proofs.Quiet.{mend_holds}
use Rattle.sv_log.proofs.Opened.{rest_only}
use Rattle.sv_log.proofs.Next.{next_log, next_text, next_world, next_state, next_holds}

-- the cut of one segment, and then the making of the next one
pub cut_goes : (a b : Disk) (name next : List ℕ) → LeavesOnly a b (Mends (seen a) name (whole_in (seen a name))) → LeavesOnly a b (SegmentGoesOn (seen a) name next)
cut_goes a b name next only = weaker_only a b (Mends (seen a) name (whole_in (seen a name))) (SegmentGoesOn (seen a) name next) (λ c w. inl w) only

pub make_goes : (a b d : Disk) (name next : List ℕ) → LeavesOnly a b (Mends (seen a) name (whole_in (seen a name))) → SameBut name (seen b) (seen a) → seen b name ≡ Some (whole_in (seen a name))
    → LeavesOnly b d (Tells (seen b) next []) → LeavesOnly a d (SegmentGoesOn (seen a) name next)
make_goes a b d name next cut others file make =
    then_only a b d (SegmentGoesOn (seen a) name next) (cut_goes a b name next cut)
    (weaker_only b d (Tells (seen b) next []) (SegmentGoesOn (seen a) name next) (λ c w. inr (seen b, others, file, w)) make)

module _ (p : Picture) (state : ℕ) (closed : List ℕ) (last : ℕ) (log : IsLog p state closed last) (some : text_at p last ≢ []) (next : ℕ) (number : IsNumber next) (is : next ≡ last + lines (text_at p last)) where
  module _ (q : Picture) (same : SameBut (segment_name last) q p) (file : q (segment_name last) ≡ Some (text_at p last)) where
    at : text_at q last ≡ text_at p last
    at = ap whole_in file ∙ text_in (p (segment_name last))

    cut_log : IsLog q state closed last
    cut_log = log_moved p q state closed last log same (text_at p last, file)

    cut_exact : q (segment_name last) ≡ Some (text_at q last)
    cut_exact = file ∙ ap (λ (t : List ℕ). Some t) (sym at)

    cut_some : text_at q last ≢ []
    cut_some e = some (sym at ∙ e)

    cut_is : next ≡ last + lines (text_at q last)
    cut_is = is ∙ ap (λ (t : List ℕ). last + lines t) (sym at)

    cut_text : text_of q closed ++ text_at q last ≡ text_of p closed ++ text_at p last
    cut_text = ap (λ (t : List ℕ). t ++ text_at q last) (text_moved p q state closed last log same) ∙ ap (λ (t : List ℕ). text_of p closed ++ t) at

    pub told_holds : (world : List ℕ) → p world_name ≡ Some world → (c : Picture) → Tells q (segment_name next) [] c → HasLog world (state, state_at p state) (text_of p closed ++ text_at p last) c
    told_holds world own c w =
        subst (λ (t : List ℕ). HasLog world (state, state_at p state) t c) cut_text
        (next_holds q state closed last cut_log cut_exact cut_some next number cut_is c w.0 world (state_at p state) (sym (state_moved p q state closed last log same)) (world_moved p q state closed last log same ∙ own) w.1)

    pub cut_next : (c : Picture) → SameBut (segment_name next) c q → (bytes : List ℕ) → c (segment_name next) ≡ Some bytes
        → IsLog c state (closed ++ last ∷ []) next × (text_of c (closed ++ last ∷ []) ≡ text_of p closed ++ text_at p last) × (c world_name ≡ p world_name) × (state_at c state ≡ state_at p state)
    cut_next c but bytes there = (
      next_log q state closed last cut_log cut_exact cut_some next number cut_is c but bytes there,
      next_text q state closed last cut_log cut_exact cut_some next number cut_is c but ∙ cut_text,
      next_world q state closed last cut_log cut_exact cut_some next number cut_is c but ∙ world_moved p q state closed last log same,
      next_state q state closed last cut_log cut_exact cut_some next number cut_is c but ∙ state_moved p q state closed last log same,
    )

  pub goes_on_holds : (world : List ℕ) → p world_name ≡ Some world → (c : Picture) → SegmentGoesOn p (segment_name last) (segment_name next) c → HasLog world (state, state_at p state) (text_of p closed ++ text_at p last) c
  goes_on_holds world own c goes =
      ⊎_elim (λ (w : Mends p (segment_name last) (text_at p last) c). mend_holds p c world (state, state_at p state) closed last log refl own w)
      (λ (w : (q : Picture) × SameBut (segment_name last) q p × (q (segment_name last) ≡ Some (text_at p last)) × Tells q (segment_name next) [] c). told_holds w.0 w.1 w.2 world own c w.3) goes

  -- both were done
  module _ (c : Picture) (file : c (segment_name last) ≡ Some (text_at p last)) (others : (n : List ℕ) → n ≢ segment_name last → n ≢ segment_name next → c n ≡ p n) where
    later : last < next
    later = let more = lines_at p last some in omega (arith, is, more)

    differ : segment_name last ≢ segment_name next
    differ e = let same : last ≡ next = segment_injective last next log.number number e in absurd (omega (arith, same, later))

    before : Picture
    before = put (segment_name next) None c

    before_file : put (segment_name next) None c (segment_name last) ≡ Some (text_at p last)
    before_file = put_other (segment_name next) (segment_name last) None c differ ∙ file

    before_same : SameBut (segment_name last) (put (segment_name next) None c) p
    before_same n ne = elim (cases_Bool (bytes_eq n (segment_name next))) [
      | inl equal ↦
          let e : n ≡ segment_name next = (bytes_eq-Decides n (segment_name next)).0 equal in
          ap (put (segment_name next) None c) e ∙ put_same (segment_name next) None c ∙ sym (ap p e ∙ log.none next number later)
      | inr other ↦
          let no : n ≢ segment_name next = λ e. false≢true (sym other ∙ (bytes_eq-Decides n (segment_name next)).1 e) in
          put_other (segment_name next) n None c no ∙ others n ne no
    ]

    pub gone_on : (bytes : List ℕ) → c (segment_name next) ≡ Some bytes
        → IsLog c state (closed ++ last ∷ []) next × (text_of c (closed ++ last ∷ []) ≡ text_of p closed ++ text_at p last) × (c world_name ≡ p world_name) × (state_at c state ≡ state_at p state)
    gone_on bytes there =
        cut_next (put (segment_name next) None c) before_same before_file c (λ n ne. sym (put_other (segment_name next) n None c ne)) bytes there

-- an open log that is on the disk
module _ {F : Type 0} (disk : F → Disk) (log : Log F) where
  pub log_front : IsFront (log_synced disk log) (log_text disk log)
  log_front =
      front-append (text_of (shown disk log) log.closed.items) (synced disk log.segment) (appended disk log.segment)
      (drop log.segment.synced (appended disk log.segment), sym (take-append-drop log.segment.synced (appended disk log.segment)))

  module _ (is_open : IsOpenLog disk log) (world : List ℕ) (own : shown disk log world_name ≡ Some world) where
    log_holds : HasLog world (newest disk log) (log_text disk log) (shown disk log)
    log_holds =
        inl (
          own,
          (
            log.closed.items,
            log.first,
            is_open.chain,
            ap (λ (n : List ℕ). text_of (shown disk log) log.closed.items ++ whole_in (shown disk log n)) is_open.name,
            refl,
          ),
        )

    pub log_rest : IsAtRest (disk log.segment.folder) → LeavesOnly (disk log.segment.folder) (disk log.segment.folder) (HasLog world (newest disk log) (log_text disk log))
    log_rest rest = rest_only (disk log.segment.folder) world (newest disk log) (log_text disk log) rest log_holds

  -- the number of the next line, if there is one
  pub next_number : IsOpenLog disk log → log.next < 18446744073709551615 → IsNumber log.next
  next_number is_open fits =
      let from = is_open.chain.number.0 in
      let next_is = is_open.next in
      ((let e : 0 < log.next = omega (arith, from, next_is) in e), (let e : log.next + 1 < 2 ^ 64 = omega (arith, fits) in e))

  -- a segment that has no byte has no text
  pub none_appended : IsOpen disk log.segment → log.segment.length ≡ 0 → appended disk log.segment ≡ []
  none_appended stands none = by_length (appended disk log.segment) (sym stands.size ∙ none)
    where
      by_length : (x : List ℕ) → length x ≡ 0 → x ≡ []
      by_length [] e = refl
      by_length (b ∷ x) e = absurd (omega (arith, e))

-- a sync, and then the next segment
module _ {F : Type 0} (disk : F → Disk) (old mid : Log F) (text : log_text disk mid ≡ log_text disk old) (same : newest disk mid ≡ newest disk old) (world : List ℕ) where
  abbrev P : Picture → Type 0
  P = KeepsLog world (newest disk old) (log_synced disk old) (log_text disk old)

  moved : (c : Picture) → HasLog world (newest disk mid) (log_text disk mid) c → P c
  moved c w =
      let v = subst (λ (s : StateFile). HasLog world s (log_text disk mid) c) same w in
      (log_text disk old, subst (λ (t : List ℕ). HasLog world (newest disk old) t c) text v, log_front disk old, front_same (log_text disk old))

  pub then_goes : (new : Disk) → LeavesOnly (disk old.segment.folder) (disk mid.segment.folder) P → LeavesOnly (disk mid.segment.folder) new (HasLog world (newest disk mid) (log_text disk mid))
      → LeavesOnly (disk old.segment.folder) new P
  then_goes new first second =
      then_only (disk old.segment.folder) (disk mid.segment.folder) new P first
      (weaker_only (disk mid.segment.folder) new (HasLog world (newest disk mid) (log_text disk mid)) P moved second)

-- the log that goes on
module _ {F : Type 0} (disk : F → Disk) (old : Log F) (is_open : IsOpenLog disk old) (number : IsNumber old.next) (filled : 0 < old.segment.length) where
  abbrev p : Picture
  p = shown disk old

  text_is : appended disk old.segment ≡ text_at p old.first
  text_is = ap (λ (n : List ℕ). whole_in (p n)) is_open.name

  some : text_at p old.first ≢ []
  some e =
      let size : old.segment.length ≡ length (appended disk old.segment) = is_open.segment.size in
      let none : length (appended disk old.segment) ≡ 0 = ap length (text_is ∙ e) in
      absurd (omega (arith, size, none, filled))

  next_is : old.next ≡ old.first + lines (text_at p old.first)
  next_is = is_open.next ∙ ap (λ (t : List ℕ). old.first + lines t) text_is

  all_text : text_of p old.closed.items ++ text_at p old.first ≡ log_text disk old
  all_text = ap (λ (t : List ℕ). text_of p old.closed.items ++ t) (sym text_is)

  pub onward_file : (room : ℕ) × (p (string_bytes old.segment.name) ≡ Some (appended disk old.segment ++ zeros room))
  onward_file = (
    old.segment.size - old.segment.length,
    is_open.segment.stands.file ∙ ap (λ (t : List ℕ). Some (t ++ zeros (old.segment.size - old.segment.length))) (take-append-drop old.segment.synced (appended disk old.segment)),
  )

  pub onward_none : p (segment_name old.next) ≡ None
  onward_none = let more = lines_at p old.first some in is_open.chain.none old.next number (omega (arith, next_is, more))

  pub onward_differ : segment_name old.next ≢ string_bytes old.segment.name
  onward_differ e =
      let more = lines_at p old.first some in
      let same : old.next ≡ old.first = segment_injective old.next old.first number is_open.chain.number (e ∙ is_open.name) in
      absurd (omega (arith, same, next_is, more))

  pub onward_only : (new : Disk) (name next : List ℕ) (world : List ℕ) → name ≡ string_bytes old.segment.name → next ≡ segment_name old.next → p world_name ≡ Some world
      → LeavesOnly (disk old.segment.folder) new (SegmentGoesOn p name next) → LeavesOnly (disk old.segment.folder) new (HasLog world (newest disk old) (log_text disk old))
  onward_only new name next world called called_next own only =
      weaker_only (disk old.segment.folder) new (SegmentGoesOn p name next) (HasLog world (newest disk old) (log_text disk old))
      (λ c w. subst (λ (t : List ℕ). HasLog world (newest disk old) t c) all_text
      (goes_on_holds p old.state old.closed.items old.first is_open.chain some old.next number next_is world own c
      (subst (λ (n : List ℕ). SegmentGoesOn p n (segment_name old.next) c) (called ∙ is_open.name) (subst (λ (n : List ℕ). SegmentGoesOn p name n c) called_next w)))) only

  module _ (folder : F) (name : String Global) (closed : Vec ℕ Global) (called : string_bytes name ≡ segment_name old.next) (pushed : closed.items ≡ old.closed.items ++ old.first ∷ [])
      (stands : LogStands (disk folder) (string_bytes name) [] [] old.segment.spare)
      (file : seen (disk folder) (string_bytes old.segment.name) ≡ Some (appended disk old.segment))
      (others : (n : List ℕ) → n ≢ string_bytes old.segment.name → n ≢ string_bytes name → seen (disk folder) n ≡ p n) where
    abbrev segment : Segment F
    segment = record { folder = folder; name = name; synced = 0; length = 0; size = old.segment.spare; spare = old.segment.spare }

    abbrev pub onward : Log F
    onward = record { alloc = old.alloc; segment = segment; closed = closed; first = old.next; next = old.next; state = old.state }

    abbrev c : Picture
    c = seen (disk folder)

    begun : IsOpen disk segment × (appended disk segment ≡ [])
    begun = started disk segment old.segment.spare stands refl refl refl

    last_file : c (segment_name old.first) ≡ Some (text_at p old.first)
    last_file = ap c (sym is_open.name) ∙ file ∙ ap (λ (t : List ℕ). Some t) text_is

    all_others : (n : List ℕ) → n ≢ segment_name old.first → n ≢ segment_name old.next → c n ≡ p n
    all_others n a b = others n (λ e. a (e ∙ is_open.name)) (λ e. b (e ∙ called))

    gone : IsLog c old.state (old.closed.items ++ old.first ∷ []) old.next × (text_of c (old.closed.items ++ old.first ∷ []) ≡ text_of p old.closed.items ++ text_at p old.first) × (c world_name ≡ p world_name)
        × (state_at c old.state ≡ state_at p old.state)
    gone =
        gone_on p old.state old.closed.items old.first is_open.chain some old.next number next_is c last_file all_others _
        (ap c (sym called) ∙ stands.file)

    pub onward_empty : appended disk segment ≡ []
    onward_empty = begun.1

    pub onward_text : log_text disk onward ≡ log_text disk old
    onward_text =
        ap (λ (t : List ℕ). text_of c closed.items ++ t) begun.1 ∙ append-nil (text_of c closed.items) ∙ ap (text_of c) pushed ∙ gone.1 ∙ all_text

    pub onward_world : shown disk onward world_name ≡ p world_name
    onward_world = gone.2

    pub onward_newest : newest disk onward ≡ newest disk old
    onward_newest = ap (λ (b : List ℕ). (old.state, b)) gone.3

    pub onward_open : IsOpenLog disk onward
    onward_open = record {
      segment = begun.0;
      name = called;
      chain = subst (λ (ms : List ℕ). IsLog c old.state ms old.next) (sym pushed) gone.0;
      world = (is_open.world.0, gone.2 ∙ is_open.world.1);
      next = let none : lines (appended disk segment) ≡ 0 = ap lines begun.1 in omega (arith, none);
    }
