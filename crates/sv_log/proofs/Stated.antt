-- What a crash leaves while a state is put, and what the log is then.
use Rattle.std.proofs.Common.{◌≡◌, ◌≢◌, ◌⊎◌, inl, inr, ⊎_elim, ℕ, zero, suc, ◌+◌, ◌-◌, ◌^◌, ◌<◌, ◌≤◌, List, [], ◌∷◌, ◌++◌, length, Option, Some, None, Vec, refl, sym, ◌∙◌, ap, subst, arith, append_assoc, take-append-drop}
use Rattle.std.specs.Option.{unwrap_or}
use Rattle.std.specs.String.{string_bytes}
use Rattle.std.specs.declared.alloc.Global.{Global}
use Rattle.std.proofs.lemmas.List.{append-nil}
use Rattle.sv_log.specs.Pictures.{Picture, Disk, seen, put, zeros}
use Rattle.sv_log.specs.Crashes.{SameBut, LeavesOnly}
use Rattle.sv_log.specs.Texts.{IsText, IsFront, whole, whole_in}
use Rattle.sv_log.specs.Rests.{IsAtRest, IsPut}
use Rattle.sv_log.specs.Logs.{IsOpen, appended, synced, pending}
use Rattle.sv_log.specs.Names.{segment_name, state_name, world_name, new_name, IsNumber, IsWrongName}
use Rattle.sv_log.specs.Chains.{StateFile, lines, text_at, text_of, state_at, sum_line, IsClosed, IsWholeState, IsNewest, IsLog, HasLog, KeepsLog}
use Rattle.sv_log.specs.States.{summed, KeepsOrPuts}
use Rattle.sv_log.specs.OpenLogs.{IsOpenLog, shown, newest, log_text, log_synced}
use Rattle.sv_log.specs.declared.segment.Segment.{Segment}
use Rattle.sv_log.specs.declared.log.Log.{Log}
use Rattle.sv_log.proofs.Texts.{front_same, front_then}
use Rattle.sv_log.proofs.Standing.{put_same, put_other, rest_stands}
use Rattle.sv_log.proofs.Moments.{then_only, weaker_only}
use Rattle.sv_log.proofs.Started.{started}
use Rattle.sv_log.proofs.Chained.{closed_low, lines_at}
use Rattle.sv_log.proofs.Numbers.{state_injective, segment_state, segment_new, state_world, state_new, world_new}
use Rattle.sv_log.proofs.Quiet.{wrong_new, but_new, holds_same}
use Rattle.sv_log.proofs.GoingOn.{log_front, log_rest}

-- a later state is not whole
none_later : (p : Picture) (state : ℕ) → IsNewest p state → (m : ℕ) → IsNumber m → state < m → IsWholeState (p (state_name m)) → ⊥
none_later p zero newest m number later w = subst IsWholeState (newest m number) w
none_later p (suc k) newest m number later w = newest.2 m number later w

-- a log without a text behind its newest state
none_behind : (p : Picture) (n : ℕ) (ms : List ℕ) (last : ℕ) → IsClosed p n ms last → last ≤ n → ms ≡ []
none_behind p n [] last chain le = refl
none_behind p n (m ∷ ms) last chain le =
    let some = lines_at p n chain.3 in
    let low = closed_low p (n + lines (text_at p n)) ms last chain.5 in
    absurd (omega (arith, le, some, low))

module _ (p : Picture) (state : ℕ) (closed : List ℕ) (last : ℕ) (log : IsLog p state closed last) (number : ℕ) (is_last : number + 1 ≡ last) (later : state < number) (bytes : List ℕ) where
  abbrev whole_state : List ℕ
  whole_state = bytes ++ sum_line bytes

  abbrev stated : Picture
  stated = put (state_name number) (Some whole_state) p

  is_number : IsNumber number
  is_number = let top = log.number.1 in ((let e : 0 < number = omega (arith, later) in e), (let e : number + 1 < 2 ^ 64 = omega (arith, is_last, top) in e))

  module _ (c : Picture) (same : SameBut new_name c stated) where
    at_state : c (state_name number) ≡ Some whole_state
    at_state = same (state_name number) (state_new number) ∙ put_same (state_name number) (Some whole_state) p

    at_segment : (m : ℕ) → c (segment_name m) ≡ p (segment_name m)
    at_segment m = same (segment_name m) (segment_new m) ∙ put_other (state_name number) (segment_name m) (Some whole_state) p (segment_state m number)

    pub at_world : c world_name ≡ p world_name
    at_world = same world_name world_new ∙ put_other (state_name number) world_name (Some whole_state) p (λ e. state_world number (sym e))

    newest_is : (n : ℕ) → n ≡ number → IsNewest c n
    newest_is zero e = absurd (omega (arith, e, later))
    newest_is (suc k) e = (
      subst IsNumber (sym e) is_number,
      subst IsWholeState (sym (ap (λ (n : ℕ). c (state_name n)) e ∙ at_state)) (bytes, refl),
      λ m num more w.
          let above : number < m = omega (arith, more, e) in
          let ne : state_name m ≢ state_name number = λ i. let eq : m ≡ number = state_injective m number num is_number i in absurd (omega (arith, eq, above)) in
          let old : c (state_name m) ≡ p (state_name m) = same (state_name m) (state_new m) ∙ put_other (state_name number) (state_name m) (Some whole_state) p ne in
          none_later p state log.newest m num (omega (arith, above, later)) (subst IsWholeState old w),
    )

    pub state_log : IsLog c number [] last
    state_log = record {
      named = λ name wrong. same name (wrong_new name wrong) ∙ put_other (state_name number) name (Some whole_state) p (wrong.1 number is_number).1 ∙ log.named name wrong;
      newest = newest_is number refl;
      chain = is_last;
      number = log.number;
      there = (log.there.0, at_segment last ∙ log.there.1);
      none = λ m num more. at_segment m ∙ log.none m num more;
    }

    state_bytes_by : (n : ℕ) → n ≡ number → state_at c n ≡ whole_state
    state_bytes_by zero e = absurd (omega (arith, e, later))
    state_bytes_by (suc k) e = ap (λ (n : ℕ). unwrap_or (c (state_name n)) []) e ∙ ap (λ (o : Option (List ℕ)). unwrap_or o []) at_state

    pub state_bytes : state_at c number ≡ whole_state
    state_bytes = state_bytes_by number refl

    pub state_text : text_at p last ≡ [] → text_at c last ≡ []
    state_text empty = ap whole_in (at_segment last) ∙ empty

    pub state_holds : (world : List ℕ) → p world_name ≡ Some world → text_at p last ≡ [] → HasLog world (summed number bytes) [] c
    state_holds world own empty = inl (at_world ∙ own, ([], last, state_log, sym (state_text empty), sym state_bytes))

  pub puts_state : (world : List ℕ) → p world_name ≡ Some world → text_at p last ≡ [] → (c : Picture) → IsPut new_name (state_name number) whole_state p c
      → KeepsOrPuts world (state, state_at p state) (text_of p closed ++ text_at p last) (text_of p closed ++ text_at p last) number bytes c
  puts_state world own empty c is =
      let text = text_of p closed ++ text_at p last in
      ⊎_elim
      (λ (same : SameBut new_name c p). inl (text, holds_same c p (but_new c p same) world (state, state_at p state) text (inl (own, (closed, last, log, refl, refl))), front_same text, front_same text))
      (λ (same : SameBut new_name c stated). inr (later, state_holds c same world own empty)) is

-- the log that has a new state
module _ {F : Type 0} (disk : F → Disk) (old : Log F) (is_open : IsOpenLog disk old) (empty : appended disk old.segment ≡ []) (number : ℕ) (is_last : number + 1 ≡ old.next) (later : old.state < number) (bytes : List ℕ) where
  abbrev p : Picture
  p = shown disk old

  text_is : text_at p old.first ≡ []
  text_is = ap (λ (n : List ℕ). whole_in (p n)) (sym is_open.name) ∙ empty

  first_is : number + 1 ≡ old.first
  first_is = let none : lines (appended disk old.segment) ≡ 0 = ap lines empty in omega (arith, is_last, is_open.next, none)

  all_text : text_of p old.closed.items ++ text_at p old.first ≡ log_text disk old
  all_text = ap (λ (t : List ℕ). text_of p old.closed.items ++ t) (text_is ∙ sym empty)

  pub put_only : (new : Disk) (name new_file whole_bytes world : List ℕ) → name ≡ state_name number → new_file ≡ new_name → whole_bytes ≡ bytes ++ sum_line bytes → p world_name ≡ Some world
      → LeavesOnly (disk old.segment.folder) new (IsPut new_file name whole_bytes p)
      → LeavesOnly (disk old.segment.folder) new (KeepsOrPuts world (newest disk old) (log_text disk old) (log_text disk old) number bytes)
  put_only new name new_file whole_bytes world called called_new summed_is own only =
      weaker_only (disk old.segment.folder) new (IsPut new_file name whole_bytes p) (KeepsOrPuts world (newest disk old) (log_text disk old) (log_text disk old) number bytes)
      (λ c is.
      let named = subst (λ (n : List ℕ). IsPut n name whole_bytes p c) called_new is in
      let stated = subst (λ (n : List ℕ). IsPut new_name n whole_bytes p c) called named in
      subst (λ (t : List ℕ). KeepsOrPuts world (newest disk old) t t number bytes c) all_text
      (puts_state p old.state old.closed.items old.first is_open.chain number first_is later bytes world own text_is c
      (subst (λ (b : List ℕ). IsPut new_name (state_name number) b p c) summed_is stated))) only

  module _ (folder : F) (closed : Vec ℕ Global) (name new_file whole_bytes : List ℕ) (none : closed.items ≡ []) (called : name ≡ state_name number) (called_new : new_file ≡ new_name)
      (summed_is : whole_bytes ≡ bytes ++ sum_line bytes) (rest : IsAtRest (disk folder)) (put_is : SameBut new_file (seen (disk folder)) (put name (Some whole_bytes) p)) where
    abbrev segment : Segment F
    segment = record { folder = folder; name = old.segment.name; synced = old.segment.synced; length = old.segment.length; size = old.segment.size; spare = old.segment.spare }

    abbrev pub stated_log : Log F
    stated_log = record { alloc = old.alloc; segment = segment; closed = closed; first = old.first; next = old.next; state = number }

    abbrev c : Picture
    c = seen (disk folder)

    is_put : SameBut new_name c (put (state_name number) (Some (bytes ++ sum_line bytes)) p)
    is_put =
        subst (λ (n : List ℕ). SameBut n c (put (state_name number) (Some (bytes ++ sum_line bytes)) p)) called_new
        (subst (λ (n : List ℕ). SameBut new_file c (put n (Some (bytes ++ sum_line bytes)) p)) called (subst (λ (b : List ℕ). SameBut new_file c (put name (Some b) p)) summed_is put_is))

    log_is : IsLog c number [] old.first
    log_is = state_log p old.state old.closed.items old.first is_open.chain number first_is later bytes c is_put

    size_is : old.segment.length ≡ 0
    size_is = is_open.segment.size ∙ ap length empty

    same_segment : c (string_bytes old.segment.name) ≡ p (string_bytes old.segment.name)
    same_segment = ap c is_open.name ∙ at_segment p old.state old.closed.items old.first is_open.chain number first_is later bytes c is_put old.first ∙ ap p (sym is_open.name)

    file : c (string_bytes old.segment.name) ≡ Some ([] ++ zeros (old.segment.size - old.segment.length))
    file =
        same_segment ∙ is_open.segment.stands.file
        ∙ ap (λ (t : List ℕ). Some (t ++ zeros (old.segment.size - old.segment.length))) (take-append-drop old.segment.synced (appended disk old.segment) ∙ empty)

    begun : IsOpen disk segment × (appended disk segment ≡ [])
    begun =
        started disk segment (old.segment.size - old.segment.length) (rest_stands (disk folder) (string_bytes old.segment.name) [] (old.segment.size - old.segment.length) rest refl file)
        (let part = is_open.segment.part in omega (arith, part, size_is)) size_is (omega (arith, size_is))

    pub stated_text : log_text disk stated_log ≡ []
    stated_text = ap (λ (ms : List ℕ). text_of c ms ++ appended disk segment) none ∙ begun.1

    pub stated_world : c world_name ≡ p world_name
    stated_world = at_world p old.state old.closed.items old.first is_open.chain number first_is later bytes c is_put

    pub stated_newest : newest disk stated_log ≡ summed number bytes
    stated_newest = ap (λ (b : List ℕ). (number, b)) (state_bytes p old.state old.closed.items old.first is_open.chain number first_is later bytes c is_put)

    pub stated_open : IsOpenLog disk stated_log
    stated_open = record {
      segment = begun.0;
      name = is_open.name;
      chain = subst (λ (ms : List ℕ). IsLog c number ms old.first) (sym none) log_is;
      world = (is_open.world.0, stated_world ∙ is_open.world.1);
      next = let nothing : lines (appended disk segment) ≡ 0 = ap lines begun.1 in omega (arith, nothing, is_last, first_is);
    }

-- before anything is written
module _ {F : Type 0} (disk : F → Disk) (old : Log F) (world : List ℕ) (number : ℕ) (bytes : List ℕ) where
  pub kept_puts : (new : Disk) → LeavesOnly (disk old.segment.folder) new (KeepsLog world (newest disk old) (log_synced disk old) (log_text disk old))
      → LeavesOnly (disk old.segment.folder) new (KeepsOrPuts world (newest disk old) (log_synced disk old) (log_text disk old) number bytes)
  kept_puts new only =
      weaker_only (disk old.segment.folder) new (KeepsLog world (newest disk old) (log_synced disk old) (log_text disk old))
      (KeepsOrPuts world (newest disk old) (log_synced disk old) (log_text disk old) number bytes) (λ c w. inl w) only

  pub rest_puts : IsOpenLog disk old → shown disk old world_name ≡ Some world → IsAtRest (disk old.segment.folder)
      → LeavesOnly (disk old.segment.folder) (disk old.segment.folder) (KeepsOrPuts world (newest disk old) (log_text disk old) (log_text disk old) number bytes)
  rest_puts is_open own rest =
      let text = log_text disk old in
      weaker_only (disk old.segment.folder) (disk old.segment.folder) (HasLog world (newest disk old) text) (KeepsOrPuts world (newest disk old) text text number bytes)
      (λ c w. inl (text, w, front_same text, front_same text)) (log_rest disk old is_open world own rest)

-- the same where the next segment was made before
module _ {F : Type 0} (disk : F → Disk) (old mid : Log F) (text : log_text disk mid ≡ log_text disk old) (same : newest disk mid ≡ newest disk old) (world : List ℕ) (number : ℕ) (bytes : List ℕ) where
  abbrev P : Picture → Type 0
  P = KeepsOrPuts world (newest disk old) (log_synced disk old) (log_text disk old) number bytes

  moved : (c : Picture) → KeepsOrPuts world (newest disk mid) (log_text disk mid) (log_text disk mid) number bytes c → P c
  moved c w =
      let v = subst (λ (s : StateFile). KeepsOrPuts world s (log_text disk mid) (log_text disk mid) number bytes c) same w in
      let u = subst (λ (t : List ℕ). KeepsOrPuts world (newest disk old) t t number bytes c) text v in
      ⊎_elim
      (λ (k : KeepsLog world (newest disk old) (log_text disk old) (log_text disk old) c). inl (k.0, k.1, front_then (log_synced disk old) (log_text disk old) k.0 (log_front disk old) k.2, k.3))
      (λ (k : ((newest disk old).0 < number) × HasLog world (summed number bytes) [] c). inr k) u

  pub then_puts : (new : Disk) → LeavesOnly (disk old.segment.folder) (disk mid.segment.folder) (KeepsLog world (newest disk old) (log_synced disk old) (log_text disk old))
      → LeavesOnly (disk mid.segment.folder) new (KeepsOrPuts world (newest disk mid) (log_text disk mid) (log_text disk mid) number bytes) → LeavesOnly (disk old.segment.folder) new P
  then_puts new first second =
      then_only (disk old.segment.folder) (disk mid.segment.folder) new P (kept_puts disk old world number bytes (disk mid.segment.folder) first)
      (weaker_only (disk mid.segment.folder) new (KeepsOrPuts world (newest disk mid) (log_text disk mid) (log_text disk mid) number bytes) P moved second)

-- a log with no line behind its newest state has no text there
module _ {F : Type 0} (disk : F → Disk) (log : Log F) (is_open : IsOpenLog disk log) where
  low : log.state + 1 ≤ log.first
  low = closed_low (shown disk log) (log.state + 1) log.closed.items log.first is_open.chain.chain

  pub next_low : log.state + 1 ≤ log.next
  next_low = let e = is_open.next in omega (arith, low, e)

  pub nothing_behind : appended disk log.segment ≡ [] → log.next - 1 ≤ log.state → log_text disk log ≡ []
  nothing_behind empty le =
      let none : lines (appended disk log.segment) ≡ 0 = ap lines empty in
      let next_is = is_open.next in
      let nothing : log.closed.items ≡ [] = none_behind (shown disk log) (log.state + 1) log.closed.items log.first is_open.chain.chain (omega (arith, le, next_is, none, low)) in
      ap (λ (ms : List ℕ). text_of (shown disk log) ms ++ appended disk log.segment) nothing ∙ empty
