-- What is proved by hand of `append_bytes`.
use Rattle.std.specs.Prelude.{codes, string_bytes}
use Rattle.sv_site.specs.Figures.{figure, bytes_text}
use Rattle.sv_site.proofs.Texts.{put_three}
use Rattle.sv_site.proofs.figures.append_bytes.Goals as goal

pub returns : goal.returns
unfolding bytes_text
returns c =
    let f = c.args.figures.now in
    put_three c.append-3.result (string_bytes c.args.out.now) (string_bytes c.append.new.out) (string_bytes c.append-2.new.out) (string_bytes c.append-3.new.out)
    (figure (codes "reported_by_steward") f.counts.reported_by_steward (codes ",")) (figure (codes "bytes_in") f.counts.bytes_in (codes ","))
    (figure (codes "bytes_out") f.counts.bytes_out (codes ",")) c.in_ok-append.ensures c.in_ok-append-2.ensures c.append-3.ensures
