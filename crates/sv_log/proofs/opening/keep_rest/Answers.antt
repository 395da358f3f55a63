-- What is proved by hand of `keep_rest`.
use Rattle.std.proofs.Common.{rules, ◌≡◌, ℕ, List, inr, subst, refl}
use Rattle.sv_log.specs.Pictures.{seen}
use Rattle.sv_log.specs.Rests.{IsPut}
use Rattle.sv_log.specs.Names.{rest_name, new_name}
use Rattle.sv_log.specs.Chains.{HasLog}
use Rattle.sv_log.proofs.Moments.{weaker_only, same_only}
use Rattle.sv_log.proofs.Quiet.{same_log_same, same_same_log, holds_same, rest_put_same}
use Rattle.sv_log.proofs.opening.keep_rest.Goals as goal

pub returns-then-is_empty-clause-same : goal.returns-then-is_empty-clause-same
returns-then-is_empty-clause-same g c = λ h. same_log_same (seen (g.F.Folder.disk c.args.folder.now))

pub returns-then-is_empty-clause-any_moment : goal.returns-then-is_empty-clause-any_moment
returns-then-is_empty-clause-any_moment g c = λ h world state text holds.
    same_only (g.F.Folder.disk c.args.folder.now) (g.F.Folder.disk c.args.folder.now) (HasLog world state text) refl
    (λ p left. holds_same p (seen (g.F.Folder.disk c.args.folder.now)) (same_same_log p (seen (g.F.Folder.disk c.args.folder.now)) ((c.requires.rest h).only p left)) world state text holds)

pub returns-in_default-clause-any_moment : goal.returns-in_default-clause-any_moment
returns-in_default-clause-any_moment g c = λ h world state text holds.
    same_only (g.F.Folder.disk c.args.folder.now) (g.F.Folder.disk c.args.folder.now) (HasLog world state text) refl
    (λ p left. holds_same p (seen (g.F.Folder.disk c.args.folder.now)) (same_same_log p (seen (g.F.Folder.disk c.args.folder.now)) ((c.requires.rest h).only p left)) world state text holds)

pub returns-in_err-put_whole-clause-any_moment : goal.returns-in_err-put_whole-clause-any_moment
returns-in_err-put_whole-clause-any_moment g c = λ h world state text holds.
    let p = seen (g.F.Folder.disk c.args.folder.now) in
    let bytes = c.rest_of-rest.result.now in
    let called : c.as_str.result.now ≡ rest_name c.args.next = search rules in
    weaker_only (g.F.Folder.disk c.args.folder.now) (g.F.Folder.disk c.put_whole.new.folder) (IsPut new_name c.as_str.result.now bytes p) (HasLog world state text)
    (λ d is. holds_same d p (rest_put_same p d c.args.next bytes (subst (λ (n : List ℕ). IsPut new_name n bytes p d) called is)) world state text holds)
    (c.put_whole.ensures.any_moment h)

pub returns-clause-any_moment : goal.returns-clause-any_moment
returns-clause-any_moment g c = λ h world state text holds.
    let p = seen (g.F.Folder.disk c.args.folder.now) in
    let bytes = c.rest_of-rest.result.now in
    let called : c.as_str.result.now ≡ rest_name c.args.next = search rules in
    weaker_only (g.F.Folder.disk c.args.folder.now) (g.F.Folder.disk c.put_whole.new.folder) (IsPut new_name c.as_str.result.now bytes p) (HasLog world state text)
    (λ d is. holds_same d p (rest_put_same p d c.args.next bytes (subst (λ (n : List ℕ). IsPut new_name n bytes p d) called is)) world state text holds)
    (c.put_whole.ensures.any_moment h)

pub returns-clause-same : goal.returns-clause-same
returns-clause-same g c = λ h.
    let p = seen (g.F.Folder.disk c.args.folder.now) in
    let d = seen (g.F.Folder.disk c.put_whole.new.folder) in
    let bytes = c.rest_of-rest.result.now in
    let called : c.as_str.result.now ≡ rest_name c.args.next = search rules in
    rest_put_same p d c.args.next bytes (subst (λ (n : List ℕ). IsPut new_name n bytes p d) called (inr (c.in_ok-put_whole.ensures.rest h).1))
