-- What is proved by hand of `why`.
use Rattle.std.proofs.Common.{◌≡◌, ℕ, ℤ, ◌≤◌, List, [], length, reverse, refl, sym, ◌∙◌, ap, subst, slice_index_or}
use Rattle.std.specs.Prelude.{All}
use Rattle.sv_journal.specs.History.{accepted, actions_of}
use Rattle.sv_why.specs.Reasons.{world_by}
use Rattle.sv_why.proofs.Wanting.{reasons-bounded, explained}
use Rattle.sv_why.proofs.explanation.why.Goals as goal

pub value_alone-requires : goal.value_alone-requires
value_alone-requires c =
    let h = reverse c.args.played.now.journal.entries in
    subst (λ (ks : List ℕ). All (λ p. (1 ≤ p) × (p ≤ length (accepted h))) ks) (sym (c.as_slice-2.ensures ∙ c.in_ok-positions.ensures))
    (reasons-bounded (actions_of h) c.args.object.0 c.args.pos (length (accepted h)) c.requires)

pub returns : goal.returns
returns c =
    let A = actions_of (reverse c.args.played.now.journal.entries) in
    explained c.args.scenario.now.world.values A c.args.object.0 c.args.pos c.in_ok-positions.positions c.in_ok-value.value c.in_ok-positions.ensures
    (c.in_ok-value.ensures
    ∙ ap (λ (opening : List (List ℤ)). slice_index_or (world_by opening A c.as_slice-2.result.now) c.args.object.0 []) c.as_slice.ensures
    ∙ ap (λ (ks : List ℕ). slice_index_or (world_by c.args.scenario.now.world.values A ks) c.args.object.0 []) c.as_slice-2.ensures)
