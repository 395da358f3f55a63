-- The snapshots of a trace, told from its first event on by a client that does it again.
use Rattle.std.proofs.Common.{◌≡◌, ℕ, List, [], ◌∷◌, ◌++◌, reverse, Option, append_assoc, sym, ap, ap₂, subst, ◌∙◌}
use Rattle.std.specs.Prelude.{option_to_list}
use Rattle.std.proofs.lemmas.List.{append-nil}
use Rattle.sv_versions.specs.Held.{Held}
use Rattle.sv_client.specs.declared.trace.Event.{Event}
use Rattle.sv_client.specs.Traces.{held_of}
use Rattle.sv_client.specs.Taking.{Identity, observed_first, observed_now}
use Rattle.sv_client.specs.Proper.{MayFollow}
use Rattle.sv_client.proofs.Shifts.{up_held, up_outstanding}
use Rattle.sv_report.specs.Again.{MayComeAfter, again, all_raised}
use Rattle.sv_report.proofs.Lines.{first_back}
use Rattle.sv_report.proofs.Standing.{done_on}
use Rattle.sv_looks.specs.declared.snapshot.Snapshot.{Snapshot}
use Rattle.sv_looks.specs.Snapshots.{snapshot_by, snapshots_in}
use Rattle.sv_looks.specs.Again.{snapshots_after}

abbrev told_by_last : Identity → List Event → Event → List Snapshot
told_by_last who t e = option_to_list (snapshot_by who.client (held_of (e ∷ t)) (observed_now who t) e)

told_onto : (who : Identity) (es t : List Event) → snapshots_in who (reverse es ++ t) ≡ snapshots_in who t ++ snapshots_after who t es
told_onto who [] t = sym (append-nil (snapshots_in who t))
told_onto who (e ∷ es) t = ap (snapshots_in who) (first_back e es t) ∙ told_onto who es (e ∷ t)
    ∙ append_assoc (snapshots_in who t) (told_by_last who t e) (snapshots_after who (e ∷ t) es)

pub told_are : (who : Identity) (es : List Event) → snapshots_in who (reverse es) ≡ snapshots_after who [] es
told_are who es = ap (snapshots_in who) (sym (append-nil (reverse es))) ∙ told_onto who es []

pub goes_on : (first : ℕ) (who : Identity) (t u es : List Event) (e : Event) → MayComeAfter who first (all_raised first t) (e ∷ es) → u ≡ again t e ∷ t →
    MayComeAfter who first (all_raised first u) es
goes_on first who t u es e m is = subst (λ xs. MayComeAfter who first xs es) (sym (done_on first who t u e m.0 is)) m.1

-- The snapshots so far and those of the events left are all, also after the next event.
pub told_on : (first : ℕ) (who : Identity) (t u es : List Event) (e : Event) (xs : List ℕ) (old new whole : List Snapshot) (more : Option Snapshot) →
    MayFollow who first (all_raised first t) e → u ≡ again t e ∷ t → xs ≡ observed_now who t → more ≡ snapshot_by who.client (held_of u) xs e →
    new ≡ old ++ option_to_list more → old ++ snapshots_after who (all_raised first t) (e ∷ es) ≡ whole →
    new ++ snapshots_after who (all_raised first u) es ≡ whole
told_on first who t u es e xs old new whole more m is seen made grew w =
    let before = all_raised first t in
    let on : all_raised first u ≡ e ∷ before = done_on first who t u e m is in
    let held : held_of u ≡ held_of (e ∷ before) = sym (up_held first u) ∙ ap held_of on in
    let same : xs ≡ observed_now who before = seen ∙ sym (ap observed_first (up_outstanding first who t)) in
    let told : option_to_list more ≡ told_by_last who before e =
    ap (λ (o : Option Snapshot). option_to_list o)
    (made ∙ ap₂ (λ (hs : List Held) (ys : List ℕ). snapshot_by who.client hs ys e) held same) in
    ap (λ (ys : List Event). new ++ snapshots_after who ys es) on
    ∙ ap (λ (ys : List Snapshot). ys ++ snapshots_after who (e ∷ before) es) (grew ∙ ap (λ (ys : List Snapshot). old ++ ys) told)
    ∙ append_assoc old (told_by_last who before e) (snapshots_after who (e ∷ before) es)
    ∙ w
