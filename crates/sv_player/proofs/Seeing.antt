-- What is seen of objects, from event to event.
use Rattle.std.proofs.Common.{◌≡◌, ℕ, ◌+◌, ◌<◌, ◌≤◌, true, false, List, [], ◌∷◌, ◌++◌, length, map, take, get_or, ℤ, Option, Some, None, refl, sym, ap, ap₂, ◌∙◌}
use lib.Pointwise.{pointwise_decides}
use Rattle.std.proofs.lemmas.Bool.Decides.{Decides-int_eq}
use Rattle.std.proofs.lemmas.List.{append_assoc, map-append}
use Rattle.sv_watch.specs.declared.change.Change.{Change}
use Rattle.sv_watch.specs.Told.{change_line}
use Rattle.sv_world.specs.declared.world.ObjectId.{ObjectId}
use Rattle.sv_client.specs.declared.trace.Event.{Event}
use Rattle.sv_client.specs.Traces.{view_of}
use Rattle.sv_client.specs.Seen.{ClientView}
use Rattle.sv_script.specs.Telling.{same_view}
use Rattle.sv_script.specs.Laws.{may_tell}
use Rattle.sv_script.proofs.Told.{quiet-view}
use Rattle.sv_player.specs.declared.telling.Seen.{Seen}
use Rattle.sv_player.specs.Seen.{seen_of, seen_by, seen_again, change_since, changes_since}
use Rattle.sv_player.proofs.Mapped.{flat_more, take_all}

-- Views that compare as the same are the same.
pub same_is : (v w : Option (List ℤ)) → same_view v w ≡ true → v ≡ w
same_is None None h = refl
same_is None (Some w) h = cc
same_is (Some v) None h = cc
same_is (Some v) (Some w) h = ap Some ((pointwise_decides Decides-int_eq v w).0 h)

-- Where the view is the same, so is what is seen.
pub still_seen : (t : List Event) (s : Seen) → same_view s.view (view_of t s.object.0) ≡ true → s ≡ seen_of t s.object
still_seen t s h = ap (λ (v : Option (List ℤ)). record { object = s.object; view = v }) (same_is s.view (view_of t s.object.0) h)

-- What was seen is seen anew.
pub seen_anew : (t u : List Event) (xs : List ObjectId) → seen_again u (seen_by t xs) ≡ seen_by u xs
seen_anew t u [] = refl
seen_anew t u (x ∷ xs) = ap (λ (ss : List Seen). seen_of u x ∷ ss) (seen_anew t u xs)

-- ---- Events that change no view

pub quiet_seen : (e : Event) (t : List Event) (xs : List ObjectId) → may_tell e ≡ false → seen_by t xs ≡ seen_by (e ∷ t) xs
quiet_seen e t [] h = refl
quiet_seen e t (x ∷ xs) h = ap₂ (λ (v : Option (List ℤ)) (ss : List Seen). record { object = x; view = v } ∷ ss) (quiet-view e t x.0 h) (quiet_seen e t xs h)

-- ---- Lines

module _ (c : ClientView) (event : ℕ) where
  -- What the next one tells.
  pub lines_more : (n : ℕ) (old : List Seen) (d s : Seen) (first before after : List (List ℕ)) → n < length old → s ≡ get_or old n d → before ≡ first ++ map change_line (changes_since c event (take n old)) →
      after ≡ before ++ map change_line (change_since c event s) → after ≡ first ++ map change_line (changes_since c event (take (n + 1) old))
  lines_more n old d s first before after l here inv more =
      let now = map change_line (change_since c event (get_or old n d)) in
      let so_far = changes_since c event (take n old) in
      more ∙ ap (λ (x : Seen). before ++ map change_line (change_since c event x)) here ∙ ap (λ (ls : List (List ℕ)). ls ++ now) inv ∙ append_assoc first (map change_line so_far) now
      ∙ ap (λ (ls : List (List ℕ)). first ++ ls)
      (sym (ap (λ (cs : List Change). map change_line cs) (flat_more (change_since c event) n old d l) ∙ map-append change_line so_far (change_since c event (get_or old n d))))

  pub lines_all : (n : ℕ) (old : List Seen) (first after : List (List ℕ)) → length old ≤ n → after ≡ first ++ map change_line (changes_since c event (take n old)) → after ≡ first ++ map change_line (changes_since c event old)
  lines_all n old first after l told = told ∙ ap (λ (ss : List Seen). first ++ map change_line (changes_since c event ss)) (take_all n old l)
