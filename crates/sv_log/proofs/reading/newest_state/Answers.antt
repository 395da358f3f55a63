-- What is proved by hand of `newest_state`.
use Rattle.std.proofs.Common.{◌≡◌, ◌∙◌, ◌⊎◌, ⊎_elim, ℕ, ◌+◌, ◌^◌, ◌<◌, List, Some, None, map, string_bytes, sym, ap, subst}
use Rattle.sv_log.specs.Pictures.{Disk, seen}
use Rattle.sv_log.specs.declared.names.FileKind.TheVariants as file
use Rattle.sv_log.specs.declared.reading.Newest.{Newest}
use Rattle.sv_log.specs.declared.reading.LogRefusal.{LogRefusal}
use Rattle.sv_log.specs.Chains.{IsNewest, state_at}
use Rattle.sv_log.specs.Readings.{IsFirstNumber, IsNewestSoFar, Looks}
use Rattle.sv_log.specs.Refusals.{IsWhy, HasNoLog}
use Rattle.sv_log.proofs.Replays.{if_ok}
use Rattle.sv_log.proofs.Walked.{newest_more, newest_last, just_why}
use Rattle.sv_log.proofs.Refused.{if_err, no_whole_state}
use Rattle.sv_log.proofs.reading.newest_state.Goals as goal

pub returns-in_default-clause-newest : goal.returns-in_default-clause-newest
returns-in_default-clause-newest g c = λ h.
    let p = seen (g.F.Folder.disk c.args.folder.now) in
    let names = map string_bytes c.args.names.now in
    let first = subst (IsFirstNumber file.State names (c.loop.newest.seen + 1)) c.in_default.is c.first_from.ensures in
    if_ok c.whole_or_none.result _ _ c.whole_or_none.ensures.ok
    (λ n is. subst (IsNewest p) (ap (λ (x : Newest). x.state) (sym is.0))
    (newest_last p names (c.requires.listed (c.loop.invariant.honest h)) c.loop.newest.state c.loop.newest.seen (c.loop.invariant.so_far h) first is.1))

pub returns-in_default-clause-bytes : goal.returns-in_default-clause-bytes
returns-in_default-clause-bytes g c = λ h.
    let p = seen (g.F.Folder.disk c.args.folder.now) in
    if_ok c.whole_or_none.result _ _ c.whole_or_none.ensures.ok (λ n is. subst (λ (x : Newest). x.bytes.items ≡ state_at p x.state) (sym is.0) (c.loop.invariant.bytes h))

pub returns-in_default-clause-refused : goal.returns-in_default-clause-refused
returns-in_default-clause-refused g c = λ h.
    let p = seen (g.F.Folder.disk c.args.folder.now) in
    let names = map string_bytes c.args.names.now in
    let first = subst (IsFirstNumber file.State names (c.loop.newest.seen + 1)) c.in_default.is c.first_from.ensures in
    if_err c.whole_or_none.result _ _ c.whole_or_none.ensures.err
    (λ r is world. just_why r.cause
    (no_whole_state p names (c.requires.listed (c.loop.invariant.honest h)) c.loop.newest.seen (subst (λ (s : ℕ). IsNewestSoFar p s c.loop.newest.seen) is.0 (c.loop.invariant.so_far h)) is.1 first world))

pub loop-preserved : goal.loop-preserved
loop-preserved g c =
    let i = c.loop.invariant in
    let p = seen (g.F.Folder.disk c.args.folder.now) in
    let names = map string_bytes c.args.names.now in
    let k = c.in-Some.number in
    let s = c.loop.newest.state in
    let t = c.look_at.new.newest.state in
    let first = subst (IsFirstNumber file.State names (c.loop.newest.seen + 1)) c.in-Some.is c.first_from.ensures in
    let looked = c.in_ok-look_at.ensures in
    record {
      same = c.look_at.ensures.same ∙ i.same;
      honest = λ h. i.honest (c.look_at.ensures.honest h);
      calm = looked.cause ∙ i.calm;
      looked = subst (λ (n : ℕ). n + 1 < 2 ^ 64) (sym looked.seen) first.0.1;
      small = ⊎_elim (λ (e : t ≡ k). subst (λ (n : ℕ). n + 1 < 2 ^ 64) (sym e) first.0.1) (λ (e : t ≡ s). subst (λ (n : ℕ). n + 1 < 2 ^ 64) (sym e) i.small) looked.state;
      bytes = λ h.
          let m = c.look_at.ensures.honest h in
          let before = subst (λ (d : Disk). c.loop.newest.bytes.items ≡ state_at (seen d) s) (sym i.same) (i.bytes m) in
          subst (λ (d : Disk). c.look_at.new.newest.bytes.items ≡ state_at (seen d) t) i.same (looked.bytes h before);
      so_far = λ h.
          let m = c.look_at.ensures.honest h in
          let looks : Looks p s t k = subst (λ (d : Disk). Looks (seen d) s t k) i.same (looked.looks h) in
          subst (IsNewestSoFar p t) (sym looked.seen) (newest_more p names (c.requires.listed (i.honest m)) s t c.loop.newest.seen k (i.so_far m) first looks);
    }
