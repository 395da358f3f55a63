-- What is proved by hand of `Pending::add`.
use Rattle.std.proofs.Common.{◌<◌, List, [], ◌∷◌, ◌++◌, length, sym, ap, subst, ◌∙◌, arith}
use Rattle.std.proofs.lemmas.List.{length_push}
use Rattle.std.proofs.lemmas.List.Elements.{All-push}
use Rattle.std.specs.Prelude.{ℤ, Option}
use Rattle.sv_world.specs.declared.world.Shape.{Shape}
use Rattle.sv_pending.specs.Pending.{PendingAction}
use Rattle.sv_pending.specs.Made.{PendingList, ReadsWithin, paired}
use Rattle.sv_pending.specs.declared.made.Made.{Made}
use Rattle.sv_pending.proofs.Places.{reads_within}
use Rattle.sv_pending.proofs.Overlays.{entry, length-paired, paired_push, whole_push}
use Rattle.sv_pending.proofs.pending.Pending.add.Goals as goal

pub kept_in-requires-clause-reads : goal.kept_in-requires-clause-reads
kept_in-requires-clause-reads c =
    subst (λ (s : Shape). ReadsWithin s.objects c.args.action) (sym c.requires.shape) (reads_within _ c.args.action c.requires.good.objects)

pub invariant_of-self-in_default : goal.invariant_of-self-in_default
invariant_of-self-in_default c =
    let ms = c.self.inside.made.items in
    let ks = c.self.inside.kept.items in
    let m : Made = record { seq = c.args.seq; action = c.args.action } in
    let short : length (paired ms ks) < 8 = subst (λ (p : PendingList). length p.items < 8) (sym c.self.view_is) c.requires.few in
    let within : ReadsWithin c.self.inside.shape.objects c.args.action =
    subst (λ (p : PendingList). ReadsWithin p.shape.objects c.args.action) (sym c.self.view_is) (reads_within _ c.args.action c.requires.good.objects) in
    rw (c.in_ok-push.ensures.items, c.in_default.ensures.items) (
      omega (arith, c.self.invariant.0, length_push ks c.in_ok-kept.kept, length_push ms m),
      omega (arith, length_push ms m, length-paired ms ks c.self.invariant.0),
      whole_push ms ks m c.in_ok-kept.kept c.self.invariant.0 c.self.invariant.2 c.in_ok-kept.ensures.whole,
      All-push (λ (n : Made). ReadsWithin c.self.inside.shape.objects n.action) ms m c.self.invariant.3 within,
    )

pub returns-clause-ok : goal.returns-clause-ok
returns-clause-ok c =
    let ms = c.self.inside.made.items in
    let ks = c.self.inside.kept.items in
    let m : Made = record { seq = c.args.seq; action = c.args.action } in
    let make : List PendingAction → PendingList = λ ps. record { shape = c.self.inside.shape; items = ps } in
    let kept = rw (c.deref.ensures.value, c.deref-2.ensures.value) at c.in_ok-kept.ensures.kept in
    rw (c.in_ok-push.ensures.items, c.in_default.ensures.items, ← c.self.view_is) (ap make (paired_push ms ks m c.in_ok-kept.kept c.self.invariant.0
    ∙ ap (λ (k : Option (List (List ℤ))). paired ms ks ++ entry m k ∷ []) kept))
