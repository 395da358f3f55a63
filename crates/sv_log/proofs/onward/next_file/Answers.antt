-- What is proved by hand of `next_file`.
use Rattle.std.proofs.Common.{◌≡◌, ◌≢◌, ◌∙◌, List, ℕ, sym}
use Rattle.sv_log.specs.Pictures.{seen}
use Rattle.sv_log.proofs.GoingOn.{cut_goes, make_goes}
use Rattle.sv_log.proofs.onward.next_file.Goals as goal

pub make_synced-requires : goal.make_synced-requires
make_synced-requires g c = record {
  rest = λ h. c.in_ok-cut_synced.ensures.rest h;
  none = λ h. let m = c.cut_synced.ensures.honest h in c.in_ok-cut_synced.ensures.others h c.args.next.now (c.requires.differ m) ∙ c.requires.none m;
}

pub returns-in_err-cut_synced-clause-any_moment : goal.returns-in_err-cut_synced-clause-any_moment
returns-in_err-cut_synced-clause-any_moment g c = λ h.
    cut_goes (g.F.Folder.disk c.args.folder.now) (g.F.Folder.disk c.cut_synced.new.folder) c.args.name.now c.args.next.now (c.cut_synced.ensures.any_moment h)

pub returns-in_err-make_synced-clause-any_moment : goal.returns-in_err-make_synced-clause-any_moment
returns-in_err-make_synced-clause-any_moment g c = λ h.
    let m = c.make_synced.ensures.honest h in
    make_goes (g.F.Folder.disk c.args.folder.now) (g.F.Folder.disk c.cut_synced.new.folder) (g.F.Folder.disk c.make_synced.new.folder) c.args.name.now c.args.next.now
    (c.cut_synced.ensures.any_moment m) (c.in_ok-cut_synced.ensures.others m) (c.in_ok-cut_synced.ensures.file m) (c.make_synced.ensures.any_moment h)

pub returns-clause-any_moment : goal.returns-clause-any_moment
returns-clause-any_moment g c = λ h.
    let m = c.make_synced.ensures.honest h in
    make_goes (g.F.Folder.disk c.args.folder.now) (g.F.Folder.disk c.cut_synced.new.folder) (g.F.Folder.disk c.make_synced.new.folder) c.args.name.now c.args.next.now
    (c.cut_synced.ensures.any_moment m) (c.in_ok-cut_synced.ensures.others m) (c.in_ok-cut_synced.ensures.file m) (c.make_synced.ensures.any_moment h)

pub returns-clause-file : goal.returns-clause-file
returns-clause-file g c = λ h.
    let m = c.make_synced.ensures.honest h in
    let differ = c.requires.differ (c.cut_synced.ensures.honest m) in
    c.in_ok-make_synced.ensures.others h c.args.name.now (λ e. differ (sym e)) ∙ c.in_ok-cut_synced.ensures.file m

pub returns-clause-others : goal.returns-clause-others
returns-clause-others g c = λ h n name next. c.in_ok-make_synced.ensures.others h n next ∙ c.in_ok-cut_synced.ensures.others (c.make_synced.ensures.honest h) n name
