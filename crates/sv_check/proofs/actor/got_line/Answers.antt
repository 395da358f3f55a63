-- What is proved by hand of `got_line`.
use Rattle.std.proofs.Common.{List, ℕ, [], ◌∷◌, ◌++◌, ap, ◌∙◌}
use Rattle.std.specs.Prelude.{codes}
use Rattle.std.specs.Fmt.{decimal}
use Rattle.sv_check.proofs.actor.got_line.Goals as goal

pub returns : goal.returns
returns c =
    c.in_ok-push_str.ensures.bytes ∙ ap (λ (xs : List ℕ). xs ++ 10 ∷ [])
    (c.in_ok-append_got.ensures ∙ ap (λ (xs : List ℕ). xs ++ (codes "got s" ++ decimal c.args.session ++ codes " #" ++ decimal c.args.number)) c.new-line.ensures.bytes)
