-- A log after a call of its segment.
use Rattle.std.proofs.Common.{◌≡◌, ℕ, ◌+◌, ◌≤◌, cond, ◌==◌, List, [], ◌∷◌, ◌++◌, length, drop, Some, refl, sym, ◌∙◌, ap, subst, append_assoc}
use Rattle.std.specs.String.{string_bytes}
use Rattle.sv_log.specs.Pictures.{Picture, Disk, seen}
use Rattle.sv_log.specs.Crashes.{SameBut, LeavesOnly}
use Rattle.sv_log.specs.Texts.{IsFront}
use Rattle.sv_log.specs.Logs.{Within, IsOpen, appended, synced}
use Rattle.sv_log.specs.Names.{segment_name, world_name}
use Rattle.sv_log.specs.Chains.{StateFile, lines, state_at, text_of, IsLog, KeepsLog}
use Rattle.sv_log.specs.OpenLogs.{shown, newest, log_text, log_synced, IsOpenLog}
use Rattle.sv_log.specs.declared.segment.Segment.{Segment}
use Rattle.sv_log.specs.declared.log.Log.{Log}
use Rattle.sv_log.proofs.Texts.{front-append}
use Rattle.sv_log.proofs.Moments.{weaker_only}
use Rattle.sv_log.proofs.Runs.{calm_only, ready_only}
use Rattle.sv_log.proofs.Chained.{named_keeps, log_moved, text_moved, state_moved, world_moved}

module _ {F : Type 0} (disk : F → Disk) (old : Log F) (is_open : IsOpenLog disk old) where
  abbrev before : List ℕ
  before = text_of (shown disk old) old.closed.items

  -- a crash of the segment is one of the log
  pub log_only : (new : Disk) (low high : List ℕ) (world : List ℕ) → shown disk old world_name ≡ Some world
      → LeavesOnly (disk old.segment.folder) new (Within (shown disk old) (string_bytes old.segment.name) low high)
      → LeavesOnly (disk old.segment.folder) new (KeepsLog world (newest disk old) (before ++ low) (before ++ high))
  log_only new low high world is only =
      weaker_only (disk old.segment.folder) new _ (KeepsLog world (newest disk old) (before ++ low) (before ++ high))
      (λ c w. named_keeps (shown disk old) c (string_bytes old.segment.name) world (newest disk old) old.closed.items old.first low high is_open.name is_open.chain refl is w) only

  -- the same for lines behind what was appended
  pub log_only_more : (new : Disk) (more : List ℕ) (world : List ℕ) → shown disk old world_name ≡ Some world
      → LeavesOnly (disk old.segment.folder) new (Within (shown disk old) (string_bytes old.segment.name) (synced disk old.segment) (appended disk old.segment ++ more))
      → LeavesOnly (disk old.segment.folder) new (KeepsLog world (newest disk old) (log_synced disk old) (log_text disk old ++ more))
  log_only_more new more world is only =
      subst (λ (l : List ℕ). LeavesOnly (disk old.segment.folder) new (KeepsLog world (newest disk old) (log_synced disk old) l)) (sym (append_assoc before (appended disk old.segment) more))
      (log_only new (synced disk old.segment) (appended disk old.segment ++ more) world is only)

  -- a crash before anything is asked
  pub log_calm : (more : List ℕ) (world : List ℕ) → shown disk old world_name ≡ Some world → LeavesOnly (disk old.segment.folder) (disk old.segment.folder) (KeepsLog world (newest disk old) (log_synced disk old) (log_text disk old ++ more))
  log_calm more world is =
      log_only_more (disk old.segment.folder) more world is
      (ready_only disk old.segment old.segment old.segment more refl (calm_only disk old.segment is_open.segment))

  module _ (segment : Segment F) (next : ℕ) (name : segment.name ≡ old.segment.name) (others : SameBut (string_bytes old.segment.name) (seen (disk segment.folder)) (shown disk old)) where
    abbrev pub later : Log F
    later = record { alloc = old.alloc; segment = segment; closed = old.closed; first = old.first; next = next; state = old.state }

    called : SameBut (segment_name old.first) (shown disk later) (shown disk old)
    called = subst (λ (n : List ℕ). SameBut n (shown disk later) (shown disk old)) is_open.name others

    pub later_text : (more : List ℕ) → appended disk segment ≡ appended disk old.segment ++ more → log_text disk later ≡ log_text disk old ++ more
    later_text more is =
        ap (λ (l : List ℕ). l ++ appended disk segment) (text_moved (shown disk old) (shown disk later) old.state old.closed.items old.first is_open.chain called)
        ∙ ap (λ (l : List ℕ). before ++ l) is ∙ sym (append_assoc before (appended disk old.segment) more)

    pub later_same : appended disk segment ≡ appended disk old.segment → log_text disk later ≡ log_text disk old
    later_same is =
        ap (λ (l : List ℕ). l ++ appended disk segment) (text_moved (shown disk old) (shown disk later) old.state old.closed.items old.first is_open.chain called)
        ∙ ap (λ (l : List ℕ). before ++ l) is

    pub later_synced : IsFront (synced disk old.segment) (synced disk segment) → IsFront (log_synced disk old) (log_synced disk later)
    later_synced front =
        subst (λ (l : List ℕ). IsFront (log_synced disk old) (l ++ synced disk segment))
        (sym (text_moved (shown disk old) (shown disk later) old.state old.closed.items old.first is_open.chain called))
        (front-append before (synced disk old.segment) (synced disk segment) front)

    pub later_all_synced : synced disk segment ≡ appended disk old.segment → log_synced disk later ≡ log_text disk old
    later_all_synced is =
        ap (λ (l : List ℕ). l ++ synced disk segment) (text_moved (shown disk old) (shown disk later) old.state old.closed.items old.first is_open.chain called)
        ∙ ap (λ (l : List ℕ). before ++ l) is

    pub later_newest : newest disk later ≡ newest disk old
    later_newest = ap (λ (bytes : List ℕ). (old.state, bytes)) (state_moved (shown disk old) (shown disk later) old.state old.closed.items old.first is_open.chain called)

    pub later_world : shown disk later world_name ≡ shown disk old world_name
    later_world = world_moved (shown disk old) (shown disk later) old.state old.closed.items old.first is_open.chain called

    pub later_open : IsOpen disk segment → next ≡ old.first + lines (appended disk segment) → IsOpenLog disk later
    later_open stands next_is = record {
      segment = stands;
      name = ap string_bytes name ∙ is_open.name;
      chain = log_moved (shown disk old) (shown disk later) old.state old.closed.items old.first is_open.chain called
          (_, ap (λ (n : List ℕ). shown disk later n) (sym is_open.name) ∙ ap (λ (n : _). shown disk later (string_bytes n)) (sym name) ∙ stands.stands.file);
      world = (is_open.world.0, later_world ∙ is_open.world.1);
      next = next_is;
    }
