-- What is proved by hand of `write_state`.
use Rattle.std.proofs.Common.{◌≡◌, ◌∙◌, ◌++◌, ℕ, List, refl, sym, ap}
use Rattle.sv_log.specs.Names.{state_name}
use Rattle.sv_log.specs.Chains.{sum_line}
use Rattle.sv_log.proofs.Stated.{rest_puts, put_only, stated_text, stated_world, stated_newest, stated_open}
use Rattle.sv_log.proofs.log.Log.write_state.Goals as goal

pub returns-in_default-clause-any_moment : goal.returns-in_default-clause-any_moment
returns-in_default-clause-any_moment g c = λ h world own. rest_puts g.F.Folder.disk c.args.self.now world c.args.number c.args.bytes.now (c.requires.open h) own (c.requires.rest h)

pub returns-in_default-with_sum-clause-any_moment : goal.returns-in_default-with_sum-clause-any_moment
returns-in_default-with_sum-clause-any_moment g c = λ h world own. rest_puts g.F.Folder.disk c.args.self.now world c.args.number c.args.bytes.now (c.requires.open h) own (c.requires.rest h)

pub returns-in_err-put_whole-clause-any_moment : goal.returns-in_err-put_whole-clause-any_moment
returns-in_err-put_whole-clause-any_moment g c = λ h world own.
    let m = c.put_whole.ensures.honest h in
    put_only g.F.Folder.disk c.args.self.now (c.requires.open m) (c.requires.empty m) c.args.number c.requires.last c.requires.later c.args.bytes.now (g.F.Folder.disk c.put_whole.new.folder)
    c.as_str.result.now _ c.deref.result.now world (c.as_str.ensures.value ∙ c.in-Ok.ensures) refl (c.deref.ensures.value ∙ c.in-Ok-with_sum.ensures) own (c.put_whole.ensures.any_moment h)

pub returns-clause-any_moment : goal.returns-clause-any_moment
returns-clause-any_moment g c = λ h world own.
    let m = c.put_whole.ensures.honest h in
    put_only g.F.Folder.disk c.args.self.now (c.requires.open m) (c.requires.empty m) c.args.number c.requires.last c.requires.later c.args.bytes.now (g.F.Folder.disk c.put_whole.new.folder)
    c.as_str.result.now _ c.deref.result.now world (c.as_str.ensures.value ∙ c.in-Ok.ensures) refl (c.deref.ensures.value ∙ c.in-Ok-with_sum.ensures) own (c.put_whole.ensures.any_moment h)

pub returns-clause-open : goal.returns-clause-open
returns-clause-open g c = λ h.
    let m = c.put_whole.ensures.honest h in
    stated_open g.F.Folder.disk c.args.self.now (c.requires.open m) (c.requires.empty m) c.args.number c.requires.last c.requires.later c.args.bytes.now c.put_whole.new.folder c.clear.new.self
    c.as_str.result.now _ c.deref.result.now c.clear.ensures.items (c.as_str.ensures.value ∙ c.in-Ok.ensures) refl (c.deref.ensures.value ∙ c.in-Ok-with_sum.ensures) (c.in_ok-put_whole.ensures.rest h).0
    (c.in_ok-put_whole.ensures.rest h).1

pub returns-clause-newest : goal.returns-clause-newest
returns-clause-newest g c = λ h.
    let m = c.put_whole.ensures.honest h in
    stated_newest g.F.Folder.disk c.args.self.now (c.requires.open m) (c.requires.empty m) c.args.number c.requires.last c.requires.later c.args.bytes.now c.put_whole.new.folder c.clear.new.self
    c.as_str.result.now _ c.deref.result.now c.clear.ensures.items (c.as_str.ensures.value ∙ c.in-Ok.ensures) refl (c.deref.ensures.value ∙ c.in-Ok-with_sum.ensures) (c.in_ok-put_whole.ensures.rest h).0
    (c.in_ok-put_whole.ensures.rest h).1

pub returns-clause-text : goal.returns-clause-text
returns-clause-text g c = λ h.
    let m = c.put_whole.ensures.honest h in
    stated_text g.F.Folder.disk c.args.self.now (c.requires.open m) (c.requires.empty m) c.args.number c.requires.last c.requires.later c.args.bytes.now c.put_whole.new.folder c.clear.new.self
    c.as_str.result.now _ c.deref.result.now c.clear.ensures.items (c.as_str.ensures.value ∙ c.in-Ok.ensures) refl (c.deref.ensures.value ∙ c.in-Ok-with_sum.ensures) (c.in_ok-put_whole.ensures.rest h).0
    (c.in_ok-put_whole.ensures.rest h).1

pub returns-clause-world : goal.returns-clause-world
returns-clause-world g c = λ h.
    let m = c.put_whole.ensures.honest h in
    stated_world g.F.Folder.disk c.args.self.now (c.requires.open m) (c.requires.empty m) c.args.number c.requires.last c.requires.later c.args.bytes.now c.put_whole.new.folder c.clear.new.self
    c.as_str.result.now _ c.deref.result.now c.clear.ensures.items (c.as_str.ensures.value ∙ c.in-Ok.ensures) refl (c.deref.ensures.value ∙ c.in-Ok-with_sum.ensures) (c.in_ok-put_whole.ensures.rest h).0
    (c.in_ok-put_whole.ensures.rest h).1
