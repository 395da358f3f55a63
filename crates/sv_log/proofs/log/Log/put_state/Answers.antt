-- What is proved by hand of `put_state`.
use Rattle.std.proofs.Common.{◌≡◌, ◌∙◌, ◌<◌, ◌≤◌, ◌-◌, ℕ, inl, inr, sym, ap, subst, arith}
use Rattle.sv_log.specs.Crashes.{LeavesOnly}
use Rattle.sv_log.specs.Chains.{StateFile}
use Rattle.sv_log.specs.States.{summed, IsPutState, KeepsOrPuts}
use Rattle.sv_log.specs.OpenLogs.{newest, log_text, log_synced}
use Rattle.sv_log.proofs.Stated.{kept_puts, then_puts, nothing_behind}
use Rattle.sv_log.proofs.log.Log.put_state.Goals as goal

pub returns-in_err-next_segment-clause-any_moment : goal.returns-in_err-next_segment-clause-any_moment
returns-in_err-next_segment-clause-any_moment g c = λ h world own.
    kept_puts g.F.Folder.disk c.args.self.now world (c.args.self.now.next - 1) c.args.bytes.now (g.F.Folder.disk c.next_segment.new.self.segment.folder) (c.next_segment.ensures.any_moment h world own)

pub returns-then-number-self-clause-any_moment : goal.returns-then-number-self-clause-any_moment
returns-then-number-self-clause-any_moment g c = λ h world own.
    kept_puts g.F.Folder.disk c.args.self.now world (c.args.self.now.next - 1) c.args.bytes.now (g.F.Folder.disk c.next_segment.new.self.segment.folder) (c.next_segment.ensures.any_moment h world own)

pub returns-then-number-self-clause-newest : goal.returns-then-number-self-clause-newest
returns-then-number-self-clause-newest g c = λ h.
    let none = c.if-number-self.true in
    inl ((let e : c.args.self.now.next - 1 ≤ c.args.self.now.state = omega (arith, none, c.saturating_sub-number.ensures, c.in_ok-next_segment.ensures.next, c.next_segment.ensures.state) in e), c.in_ok-next_segment.ensures.newest h)

pub returns-then-number-self-clause-text : goal.returns-then-number-self-clause-text
returns-then-number-self-clause-text g c = λ h.
    let none = c.if-number-self.true in
    nothing_behind g.F.Folder.disk c.next_segment.new.self (c.in_ok-next_segment.ensures.open h) (c.in_ok-next_segment.ensures.empty h) (omega (arith, none, c.saturating_sub-number.ensures))

pub returns-in_err-write_state-clause-any_moment : goal.returns-in_err-write_state-clause-any_moment
returns-in_err-write_state-clause-any_moment g c = λ h world own.
    let m = c.write_state.ensures.honest h in
    let old = c.args.self.now in
    let new = g.F.Folder.disk c.write_state.new.self.segment.folder in
    let is : c.saturating_sub-number.result ≡ old.next - 1 = omega (arith, c.saturating_sub-number.ensures, c.in_ok-next_segment.ensures.next) in
    subst (λ (n : ℕ). LeavesOnly (g.F.Folder.disk old.segment.folder) new (KeepsOrPuts world (newest g.F.Folder.disk old) (log_synced g.F.Folder.disk old) (log_text g.F.Folder.disk old) n c.args.bytes.now)) is
    (then_puts g.F.Folder.disk old c.next_segment.new.self (c.in_ok-next_segment.ensures.text m) (c.in_ok-next_segment.ensures.newest m) world c.saturating_sub-number.result c.args.bytes.now new
    (c.next_segment.ensures.any_moment m world own) (c.write_state.ensures.any_moment h world (c.in_ok-next_segment.ensures.world m ∙ own)))

pub returns-clause-any_moment : goal.returns-clause-any_moment
returns-clause-any_moment g c = λ h world own.
    let m = c.write_state.ensures.honest h in
    let old = c.args.self.now in
    let new = g.F.Folder.disk c.write_state.new.self.segment.folder in
    let is : c.saturating_sub-number.result ≡ old.next - 1 = omega (arith, c.saturating_sub-number.ensures, c.in_ok-next_segment.ensures.next) in
    subst (λ (n : ℕ). LeavesOnly (g.F.Folder.disk old.segment.folder) new (KeepsOrPuts world (newest g.F.Folder.disk old) (log_synced g.F.Folder.disk old) (log_text g.F.Folder.disk old) n c.args.bytes.now)) is
    (then_puts g.F.Folder.disk old c.next_segment.new.self (c.in_ok-next_segment.ensures.text m) (c.in_ok-next_segment.ensures.newest m) world c.saturating_sub-number.result c.args.bytes.now new
    (c.next_segment.ensures.any_moment m world own) (c.write_state.ensures.any_moment h world (c.in_ok-next_segment.ensures.world m ∙ own)))

pub returns-clause-newest : goal.returns-clause-newest
returns-clause-newest g c = λ h.
    let old = c.args.self.now in
    let some = c.if-number-self.false in
    let is : c.saturating_sub-number.result ≡ old.next - 1 = omega (arith, c.saturating_sub-number.ensures, c.in_ok-next_segment.ensures.next) in
    inr (
      (let e : old.state < old.next - 1 = omega (arith, some, is, c.next_segment.ensures.state) in e),
      c.in_ok-write_state.ensures.newest h ∙ ap (λ (n : ℕ). summed n c.args.bytes.now) is,
    )

pub returns-clause-world : goal.returns-clause-world
returns-clause-world g c = λ h. c.in_ok-write_state.ensures.world h ∙ c.in_ok-next_segment.ensures.world (c.write_state.ensures.honest h)
