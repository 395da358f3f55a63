-- What was read, and the log that is opened.
use Rattle.std.proofs.Common.{◌≡◌, ◌≢◌, ◌⊎◌, inl, inr, ℕ, ◌+◌, true, false, Bool, List, [], ◌∷◌, ◌++◌, Option, Some, None, refl, sym, ◌∙◌, ap, subst, arith}
use Rattle.std.specs.String.{string_bytes}
use Rattle.std.specs.Option.{unwrap_or}
use Rattle.std.specs.declared.alloc.Global.{Global}
use Rattle.sv_log.specs.Pictures.{Picture, Disk, seen}
use Rattle.sv_log.specs.Crashes.{SameBut, LeavesOnly}
use Rattle.sv_log.specs.Texts.{whole_in}
use Rattle.sv_log.specs.Rests.{IsAtRest}
use Rattle.sv_log.specs.Logs.{IsOpen, appended, synced}
use Rattle.sv_log.specs.Names.{segment_name, world_name}
use Rattle.sv_log.specs.Chains.{StateFile, no_state, lines, text_at, text_of, state_at, IsLog, IsFresh, HasLog, SameLog}
use Rattle.sv_log.specs.OpenLogs.{IsOpenLog, newest, log_text, log_synced}
use Rattle.sv_log.specs.Readings.{read_state, HasWorld, ReadsNone, ReadsSome, ReadsLast, Reads, IsReadyLast, IsReadyToOpen, LastBecomes}
use Rattle.sv_log.specs.declared.reading.Reading.{Reading}
use Rattle.sv_log.specs.declared.segment.Segment.{Segment}
use Rattle.sv_log.specs.declared.log.Log.{Log}
use Rattle.sv_log.proofs.Moments.{same_only}
use Rattle.sv_log.proofs.Chained.{state_same, log_moved, text_moved, state_moved, world_moved}
use Rattle.sv_log.proofs.Alone.{state_is}
use Rattle.sv_log.proofs.Quiet.{log_same, holds_same, same_same_log, first_tells, first_log, first_world, mend_holds}

pub reads_none : (world : List ℕ) (p : Picture) (r : Reading) → r.last ≡ None → Reads world p r → ReadsNone world p r × HasWorld (p world_name) world r.has_world
reads_none world p r e reads = subst (ReadsLast world p r) e reads

pub reads_some : (world : List ℕ) (p : Picture) (r : Reading) (last : ℕ) → r.last ≡ Some last → Reads world p r → ReadsSome world p r last
reads_some world p r last e reads = subst (ReadsLast world p r) e reads

pub none_holds : (world : List ℕ) (p : Picture) (r : Reading) → ReadsNone world p r → HasLog world (read_state r) r.text.items p
none_holds world p r n = inr (n.fresh, state_is (read_state r) no_state n.state n.bytes, n.text)

pub some_holds : (world : List ℕ) (p : Picture) (r : Reading) (last : ℕ) → ReadsSome world p r last → HasLog world (read_state r) r.text.items p
some_holds world p r last n = inl (n.own, (r.closed.items, last, n.log, n.text, n.bytes))

pub none_from : (world : List ℕ) (r : Reading) (p c : Picture) → ReadsNone world p r → HasLog world no_state [] c → HasLog world (read_state r) r.text.items c
none_from world r p c n holds =
    subst (λ (s : StateFile). HasLog world s r.text.items c) (sym (state_is (read_state r) no_state n.state n.bytes)) (subst (λ (t : List ℕ). HasLog world no_state t c) (sym n.text) holds)

reads_by : (world : List ℕ) (p : Picture) (r : Reading) (o : Option ℕ) → ReadsLast world p r o → HasLog world (read_state r) r.text.items p
reads_by world p r None n = none_holds world p r n.0
reads_by world p r (Some last) n = some_holds world p r last n

pub reads_holds : (world : List ℕ) (p : Picture) (r : Reading) → Reads world p r → HasLog world (read_state r) r.text.items p
reads_holds world p r reads = reads_by world p r r.last reads

-- a folder at rest keeps its log
pub rest_only : (disk : Disk) (world : List ℕ) (state : StateFile) (text : List ℕ) → IsAtRest disk → HasLog world state text (seen disk) → LeavesOnly disk disk (HasLog world state text)
rest_only disk world state text rest holds =
    same_only disk disk (HasLog world state text) refl (λ c left. holds_same c (seen disk) (same_same_log c (seen disk) (rest.only c left)) world state text holds)

pub some_same : (world : List ℕ) (p c : Picture) (r : Reading) (last : ℕ) → SameLog c p → ReadsSome world p r last → ReadsSome world c r last
some_same world p c r last same n =
    let moved = log_same c p same r.state r.closed.items last n.log in record {
      own = same.world ∙ n.own;
      log = moved.0;
      bytes = n.bytes ∙ sym (state_same p c r.state same.states);
      text = n.text ∙ ap (λ (t : List ℕ). t ++ text_at p last) (sym moved.1) ∙ ap (λ (o : Option (List ℕ)). text_of c r.closed.items ++ whole_in o) (sym (same.segments last));
      next = n.next ∙ ap (λ (o : Option (List ℕ)). last + lines (whole_in o)) (sym (same.segments last));
    }

pub none_put : (world : List ℕ) (p c : Picture) (r : Reading) → ReadsNone world p r → IsFresh world c → ReadsNone world c r
none_put world p c r n fresh = record { fresh = fresh; state = n.state; bytes = n.bytes; closed = n.closed; text = n.text; next = n.next }

pub ready_none : (world : List ℕ) (p : Picture) (r : Reading) (name : List ℕ) → r.last ≡ None → name ≡ segment_name 1 → ReadsNone world p r → p world_name ≡ Some world → IsReadyToOpen world p r name
ready_none world p r name e called n own = subst (IsReadyLast world p r name) (sym e) (called, n, own)

pub ready_some : (world : List ℕ) (p : Picture) (r : Reading) (name : List ℕ) (last : ℕ) → r.last ≡ Some last → name ≡ segment_name last → ReadsSome world p r last → IsReadyToOpen world p r name
ready_some world p r name last e called n = subst (IsReadyLast world p r name) (sym e) (called, n)

-- while the last segment is made or mended the log is the same
last_keeps : (world : List ℕ) (p c : Picture) (r : Reading) (name : List ℕ) (o : Option ℕ) → IsReadyLast world p r name o → LastBecomes o p name c → HasLog world (read_state r) r.text.items c
last_keeps world p c r name None ready w =
    none_from world r p c ready.1 (first_tells p c world ready.1.fresh ready.2 (subst (λ (n : List ℕ). LastBecomes None p n c) ready.0 w))
last_keeps world p c r name (Some last) ready w =
    subst (λ (t : List ℕ). HasLog world (read_state r) t c) (sym ready.1.text)
    (mend_holds p c world (read_state r) r.closed.items last ready.1.log ready.1.bytes ready.1.own (subst (λ (n : List ℕ). LastBecomes (Some last) p n c) ready.0 w))

pub last_holds : (world : List ℕ) (p c : Picture) (r : Reading) (name : List ℕ) → IsReadyToOpen world p r name → LastBecomes r.last p name c → HasLog world (read_state r) r.text.items c
last_holds world p c r name ready w = last_keeps world p c r name r.last ready w

module _ {F : Type 0} (disk : F → Disk) (alloc : Global) (world : List ℕ) (p : Picture) (r : Reading) (segment : Segment F) (name : List ℕ) (called : string_bytes segment.name ≡ name)
    (stands : IsOpen disk segment) (text : appended disk segment ≡ whole_in (p name)) (all : synced disk segment ≡ appended disk segment) (others : SameBut name (seen (disk segment.folder)) p) where
  abbrev pub made : ℕ → Log F
  made first = record { alloc = alloc; segment = segment; closed = r.closed; first = first; next = r.next; state = r.state }

  abbrev c : Picture
  c = seen (disk segment.folder)

  file : (bytes : List ℕ) × (c name ≡ Some bytes)
  file = (_, ap c (sym called) ∙ stands.stands.file)

  opened_last : (o : Option ℕ) → IsReadyLast world p r name o → IsOpenLog disk (made (unwrap_or o 1)) × (log_text disk (made (unwrap_or o 1)) ≡ r.text.items)
  opened_last None ready =
      let same : SameBut (segment_name 1) c p = subst (λ (n : List ℕ). SameBut n c p) ready.0 others in
      let n = ready.1 in
      let none : p name ≡ None = ap p ready.0 ∙ n.fresh.segments 1 (omega arith, omega arith) in
      let empty : appended disk segment ≡ [] = text ∙ ap whole_in none in
      let there : (bytes : List ℕ) × (c (segment_name 1) ≡ Some bytes) = (file.0, ap c (sym ready.0) ∙ file.1) in
      let log : IsLog c 0 [] 1 = first_log p c world n.fresh ready.2 same there.0 there.1 in (
        record {
          segment = stands;
          name = called ∙ ready.0;
          chain = subst (λ (s : ℕ). IsLog c s r.closed.items 1) (sym n.state) (subst (λ (ms : List ℕ). IsLog c 0 ms 1) (sym n.closed) log);
          world = (world, first_world p c world n.fresh ready.2 same);
          next = n.next ∙ ap (λ (t : List ℕ). 1 + lines t) (sym empty);
        },
        ap (λ (ms : List ℕ). text_of c ms ++ appended disk segment) n.closed ∙ empty ∙ sym n.text,
      )
  opened_last (Some last) ready =
      let same : SameBut (segment_name last) c p = subst (λ (n : List ℕ). SameBut n c p) ready.0 others in
      let n = ready.1 in
      let at : appended disk segment ≡ text_at p last = text ∙ ap (λ (m : List ℕ). whole_in (p m)) ready.0 in (
        record {
          segment = stands;
          name = called ∙ ready.0;
          chain = log_moved p c r.state r.closed.items last n.log same (file.0, ap c (sym ready.0) ∙ file.1);
          world = (world, world_moved p c r.state r.closed.items last n.log same ∙ n.own);
          next = n.next ∙ ap (λ (t : List ℕ). last + lines t) (sym at);
        },
        ap (λ (t : List ℕ). t ++ appended disk segment) (text_moved p c r.state r.closed.items last n.log same) ∙ ap (λ (t : List ℕ). text_of p r.closed.items ++ t) at ∙ sym n.text,
      )

  pub opened_log : (first : ℕ) → first ≡ unwrap_or r.last 1 → IsReadyToOpen world p r name → IsOpenLog disk (made first) × (log_text disk (made first) ≡ r.text.items)
  opened_log first is ready = subst (λ (f : ℕ). IsOpenLog disk (made f) × (log_text disk (made f) ≡ r.text.items)) (sym is) (opened_last r.last ready)

  newest_last : (o : Option ℕ) → IsReadyLast world p r name o → state_at c r.state ≡ r.state_bytes.items
  newest_last None ready = ap (state_at c) ready.1.state ∙ sym ready.1.bytes
  newest_last (Some last) ready =
      let same : SameBut (segment_name last) c p = subst (λ (n : List ℕ). SameBut n c p) ready.0 others in
      state_moved p c r.state r.closed.items last ready.1.log same ∙ sym ready.1.bytes

  pub opened_newest : (first : ℕ) → IsReadyToOpen world p r name → newest disk (made first) ≡ read_state r
  opened_newest first ready = ap (λ (b : List ℕ). (r.state, b)) (newest_last r.last ready)

  pub opened_all : (first : ℕ) → log_text disk (made first) ≡ r.text.items → log_synced disk (made first) ≡ r.text.items
  opened_all first is = ap (λ (t : List ℕ). text_of c r.closed.items ++ t) all ∙ is

  world_last : (o : Option ℕ) → IsReadyLast world p r name o → c world_name ≡ Some world
  world_last None ready = first_world p c world ready.1.fresh ready.2 (subst (λ (n : List ℕ). SameBut n c p) ready.0 others)
  world_last (Some last) ready =
      let same : SameBut (segment_name last) c p = subst (λ (n : List ℕ). SameBut n c p) ready.0 others in
      world_moved p c r.state r.closed.items last ready.1.log same ∙ ready.1.own

  pub opened_world : IsReadyToOpen world p r name → c world_name ≡ Some world
  opened_world ready = world_last r.last ready
