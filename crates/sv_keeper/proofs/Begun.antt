-- A world that is opened over what was read of its log.
use Rattle.std.proofs.Common.{◌≡◌, inl, inr, ℕ, ◌≤◌, List, [], length, Option, Some, None, refl, sym, subst, ap, ◌∙◌, arith}
use Rattle.std.specs.String.{string_bytes}
use Rattle.sv_journal.specs.declared.entry.Entry.{Entry}
use Rattle.sv_journal.specs.Answer.{Rules}
use Rattle.sv_living.specs.World.{WorldView}
use Rattle.sv_log.specs.Pictures.{Picture, Disk, seen}
use Rattle.sv_log.specs.Crashes.{LeavesOnly}
use Rattle.sv_log.specs.Rests.{IsAtRest}
use Rattle.sv_log.specs.Chains.{StateFile, no_state, state_at, HasLog, IsLog}
use Rattle.sv_log.specs.Readings.{read_state, Reads, ReadsLast}
use Rattle.sv_log.specs.declared.reading.Reading.{Reading}
use Rattle.sv_log.proofs.Alone.{state_is, holds_alone}
use Rattle.sv_log.proofs.Moments.{then_only, weaker_only}
use Rattle.sv_log.proofs.Opened.{reads_holds, rest_only}
use Rattle.sv_keeper.specs.Histories.{history_text, first_entries, HoldsFirst}
use Rattle.sv_keeper.specs.Keeping.{text_of}
use Rattle.sv_keeper.specs.Places.{IsFirstOf, StandsAt}
use Rattle.sv_keeper.specs.Opened.{HasAll, IsWrongLine, HasState, IsFirstWrong, IsStated, WhyNotWalked, WhyNotOpened}
use Rattle.sv_keeper.specs.declared.fault.OpenFault.{OpenFault}
use Rattle.sv_keeper.specs.declared.fault.OpenFault.TheVariants as faults
use Rattle.sv_keeper.proofs.Taken.{taken_nothing}
use Rattle.sv_keeper.proofs.Placed.{stands_at}
use Rattle.sv_keeper.proofs.Ended.{GoesOn, goes_on_first}
use Rattle.sv_keeper.proofs.Grown.{holds_first, has_all, just_all}

-- ---- What was read

module _ (world : List ℕ) (left : Disk) (r : Reading) (reads : Reads world (seen left) r) (stateless : r.state ≡ 0) where
  abbrev p : Picture
  p = seen left

  none_by : (o : Option ℕ) → ReadsLast world p r o → r.state_bytes.items ≡ []
  none_by None n = n.0.bytes
  none_by (Some last) n = n.bytes ∙ ap (state_at p) stateless

  pub no_state_read : read_state r ≡ no_state
  no_state_read = state_is (read_state r) no_state stateless (none_by r.last reads)

  pub stateless_holds : HasLog world no_state r.text.items p
  stateless_holds = subst (λ (s : StateFile). HasLog world s r.text.items p) no_state_read (reads_holds world p r reads)

  -- A log of this world without a state has the text that was read.
  pub text_is : (text : List ℕ) → HasLog world no_state text p → text ≡ r.text.items
  text_is text holds = (holds_alone world p no_state no_state text r.text.items holds stateless_holds).1

  -- The line that is wrong stands where it is said to.
  module _ (start : WorldView) (file : List ℕ) (line : ℕ) (is : IsFirstWrong start r file line) where
    no_text : r.text.items ≡ [] → ⊥
    no_text none = is.wrong.more (taken_nothing is.wrong.right none)

    stands_by : (o : Option ℕ) → r.last ≡ o → ReadsLast world p r o → StandsAt p is.number file line
    stands_by None e n = absurd (no_text n.0.text)
    stands_by (Some last) e n =
        stands_at p r.closed.items last (subst (λ (s : ℕ). IsLog p s r.closed.items last) stateless n.log) is.number is.first line file
        (subst (λ (o : Option ℕ). IsFirstOf r.closed.items o is.number is.first) e is.begins) is.place

    pub wrong_line : IsWrongLine left world start file line
    wrong_line = record {
      text = r.text.items;
      number = is.number;
      read = stateless_holds;
      wrong = is.wrong;
      stands = stands_by r.last refl reads;
    }

-- A state was read.
pub has_state : (world : List ℕ) (left : Disk) (r : Reading) → Reads world (seen left) r → (file : List ℕ) (line : ℕ) → IsStated r file line → HasState left world file line
has_state world left r reads file line is = record {
  state = read_state r;
  text = r.text.items;
  some = is.0;
  read = reads_holds world (seen left) r reads;
  name = is.1;
  line_is = is.2;
}

-- ---- What a crash leaves while it is opened

module _ (world : List ℕ) (left middle now : Disk) (r : Reading) (state : StateFile) (same : read_state r ≡ no_state) (newest : state ≡ read_state r)
    (first : LeavesOnly left middle (HasLog world (read_state r) r.text.items)) where
  stateless_first : LeavesOnly left middle (HasLog world no_state r.text.items)
  stateless_first = subst (λ (s : StateFile). LeavesOnly left middle (HasLog world s r.text.items)) same first

  -- The log was opened, and then sessions ended, or in part.
  pub opened_all : (text : List ℕ) → text ≡ r.text.items → LeavesOnly middle now (HasAll world state text) → LeavesOnly left now (HasAll world no_state r.text.items)
  opened_all text is then =
      then_only left middle now (HasAll world no_state r.text.items)
      (weaker_only left middle (HasLog world no_state r.text.items) (HasAll world no_state r.text.items) (λ p holds. just_all world no_state p r.text.items holds) stateless_first)
      (subst (λ (s : StateFile). LeavesOnly middle now (HasAll world s r.text.items)) (newest ∙ same)
      (subst (λ (t : List ℕ). LeavesOnly middle now (HasAll world state t)) is then))

  -- The log was opened, and then all sessions ended.
  pub opened_first : (reached later : WorldView) → text_of reached ≡ r.text.items → later.rules ≡ reached.rules → GoesOn reached.history later.history
      → (synced : ℕ) → synced ≡ length reached.history
      → LeavesOnly middle now (HoldsFirst later.rules.world.shape world state later.history synced)
      → LeavesOnly left now (HoldsFirst later.rules.world.shape world no_state later.history (length reached.history))
  opened_first reached later text_is rules on synced is then =
      then_only left middle now (HoldsFirst later.rules.world.shape world no_state later.history (length reached.history))
      (weaker_only left middle (HasLog world no_state r.text.items) (HoldsFirst later.rules.world.shape world no_state later.history (length reached.history))
      (λ p holds. holds_first later.rules.world.shape world no_state p reached.history later.history on r.text.items
      (sym text_is ∙ ap (λ (x : Rules). history_text x.world.shape reached.history) (sym rules)) holds) stateless_first)
      (subst (λ (s : StateFile). LeavesOnly middle now (HoldsFirst later.rules.world.shape world s later.history (length reached.history))) (newest ∙ same)
      (subst (λ (n : ℕ). LeavesOnly middle now (HoldsFirst later.rules.world.shape world state later.history n)) is then))

-- It was not opened.
pub opened_not : (world : List ℕ) (left now : Disk) (r : Reading) → Reads world (seen left) r → r.state ≡ 0 → LeavesOnly left now (HasLog world (read_state r) r.text.items) → LeavesOnly left now (HasAll world no_state r.text.items)
opened_not world left now r reads stateless only =
    weaker_only left now (HasLog world no_state r.text.items) (HasAll world no_state r.text.items) (λ p holds. just_all world no_state p r.text.items holds)
    (subst (λ (s : StateFile). LeavesOnly left now (HasLog world s r.text.items)) (no_state_read world left r reads stateless) only)

-- A folder that was only read has what it had.
pub only_read : (left now : Disk) (world : List ℕ) → now ≡ left → IsAtRest left → (text : List ℕ) → HasLog world no_state text (seen left) → LeavesOnly left now (HasAll world no_state text)
only_read left now world same rest text holds =
    subst (λ (d : Disk). LeavesOnly left d (HasAll world no_state text)) (sym same)
    (weaker_only left left (HasLog world no_state text) (HasAll world no_state text) (λ p held. just_all world no_state p text held) (rest_only left world no_state text rest holds))

-- ---- Sessions end, and all is durable

module _ (old mid : WorldView) (synced : ℕ) (world : List ℕ) (state : StateFile) (few : synced ≤ length old.history) (text : List ℕ)
    (is : text ≡ history_text old.rules.world.shape (first_entries synced old.history)) (rules : mid.rules ≡ old.rules) (on : GoesOn old.history mid.history) where
  later_text : text ≡ history_text mid.rules.world.shape (first_entries synced mid.history)
  later_text =
      is ∙ ap (λ (h : List Entry). history_text old.rules.world.shape h) (sym (goes_on_first synced old.history mid.history on few))
      ∙ ap (λ (x : Rules). history_text x.world.shape (first_entries synced mid.history)) (sym rules)

  -- What a crash leaves then has all that was synced before.
  pub all_before : (a b : Disk) → LeavesOnly a b (HoldsFirst mid.rules.world.shape world state mid.history synced) → LeavesOnly a b (HasAll world state text)
  all_before a b only =
      weaker_only a b (HoldsFirst mid.rules.world.shape world state mid.history synced) (HasAll world state text)
      (λ p held. has_all mid.rules.world.shape world state p mid.history synced text later_text held) only

-- ---- Why it is not opened

pub why_not : (left now : Disk) (world : List ℕ) (start : WorldView) (r : Reading) → now ≡ left → Reads world (seen left) r → (e : OpenFault) → WhyNotWalked start r e → WhyNotOpened left now world start e
why_not left now world start r same reads (faults.Line file line cause) (inl is) = (same, inl (wrong_line world left r reads is.stateless start (string_bytes file) line is))
why_not left now world start r same reads (faults.Line file line cause) (inr is) = (same, inr (has_state world left r reads (string_bytes file) line is))
why_not left now world start r same reads faults.Memory is = tt
why_not left now world start r same reads faults.Disk is = absurd is
why_not left now world start r same reads (faults.Refused refusal) is = absurd is
