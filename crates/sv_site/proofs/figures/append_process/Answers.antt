-- What is proved by hand of `append_process`.
use Rattle.std.specs.Prelude.{codes, string_bytes}
use Rattle.sv_site.specs.Figures.{figure, process_text}
use Rattle.sv_site.proofs.Texts.{put_two}
use Rattle.sv_site.proofs.figures.append_process.Goals as goal

pub returns : goal.returns
unfolding process_text
returns c =
    let f = c.args.figures.now in
    put_two c.append-2.result (string_bytes c.args.out.now) (string_bytes c.append.new.out) (string_bytes c.append-2.new.out)
    (figure (codes "refused_connections") f.counts.refused_connections (codes ",")) (figure (codes "seconds") f.seconds (codes "}\n"))
    c.in_ok-append.ensures c.append-2.ensures
