-- A store that stands for a longer list of values is read alike.
use Rattle.std.proofs.Common.{◌≡◌, ℕ, ◌<◌, List, [], ◌∷◌, ◌++◌, Option, option_map, refl, ap, ◌∙◌}
use Rattle.std.specs.Prelude.{ℤ, if◌then◌else◌}
use Rattle.sv_world.specs.declared.action.Action.{Action}
use Rattle.sv_world.specs.Sets.{read_set}
use Rattle.sv_eval.specs.Evaluation.{effect_of}
use Rattle.sv_versions.specs.Held.{Held, AnswersAbove, latest, read_below}
use Rattle.sv_pending.specs.Pending.{PendingAction, view_under, overlay_of, view_over, views_over, kept_of, redone, redone_after}
use Rattle.sv_client.specs.Traces.{are_same, settled_by}
use Rattle.sv_client.specs.Taking.{first_unheld}
use Rattle.sv_client.specs.Evaluating.{values_below}

module _ {told : ℕ} {kept all : List Held} (stands : AnswersAbove told kept all) where
  pub latest_same : (x : ℕ) → latest kept x ≡ latest all x
  latest_same x = ap (option_map (λ (h : Held). h.value)) (stands.last x)

  pub view_same : (ps : List PendingAction) (x : ℕ) → view_over kept ps x ≡ view_over all ps x
  view_same ps x = ap (view_under (overlay_of ps x)) (latest_same x)

  pub views_same : (ps : List PendingAction) (xs : List ℕ) → views_over kept ps xs ≡ views_over all ps xs
  views_same ps [] = refl
  views_same ps (x ∷ xs) = rw (view_same ps x, views_same ps xs) refl

  pub kept_same : (ps : List PendingAction) (a : Action) → kept_of kept ps a ≡ kept_of all ps a
  kept_same ps a = ap (option_map (λ values. (effect_of a values).writes)) (views_same ps (read_set a))

  pub redone_after_same : (earlier ps : List PendingAction) → redone_after kept earlier ps ≡ redone_after all earlier ps
  redone_after_same earlier [] = refl
  redone_after_same earlier (p ∷ ps) =
      ap (λ (k : Option (List (List ℤ))). redone_after kept (earlier ++ record p { kept = k } ∷ []) ps) (kept_same earlier p.action)
      ∙ redone_after_same (earlier ++ record p { kept = kept_of all earlier p.action } ∷ []) ps

  pub redone_same : (ps : List PendingAction) → redone kept ps ≡ redone all ps
  redone_same ps = redone_after_same [] ps

  pub settled_same : (own : Option (List (List ℤ))) (ps : List PendingAction) → settled_by kept own ps ≡ settled_by all own ps
  settled_same own [] = refl
  settled_same own (p ∷ ps) = ap (λ (qs : List PendingAction). if are_same own p.kept then ps else qs) (redone_same ps)

  pub read_same : (x pos : ℕ) → told < pos → read_below kept x pos ≡ read_below all x pos
  read_same x pos l = ap (option_map (λ (h : Held). h.value)) (stands.below x pos l)

  pub values_same : (pos : ℕ) → told < pos → (xs : List ℕ) → values_below kept pos xs ≡ values_below all pos xs
  values_same pos l [] = refl
  values_same pos l (x ∷ xs) = rw (read_same x pos l, values_same pos l xs) refl

  pub missing_same : (pos : ℕ) → told < pos → (xs : List ℕ) → first_unheld kept pos xs ≡ first_unheld all pos xs
  missing_same pos l [] = refl
  missing_same pos l (x ∷ xs) = rw (read_same x pos l, missing_same pos l xs) refl
