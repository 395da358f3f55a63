-- Events that a player does, and what they tell.
use Rattle.std.proofs.Common.{◌≡◌, ℕ, suc, ◌<◌, Bool, true, false, List, [], ◌∷◌, ◌++◌, length, map, ℤ, Option, Some, None, refl, sym, ap, ap₂, subst, ◌∙◌}
use Rattle.std.specs.Prelude.{All, if◌then◌else◌}
use Rattle.std.specs.Option.{IfSome}
use Rattle.std.specs.List.{AllByRecursion, flat_map}
use Rattle.std.proofs.lemmas.List.{map-append}
use Rattle.std.proofs.lemmas.List.Elements.{All-nil, All-cons, All-append, recursion_from_All}
use Rattle.sv_world.specs.declared.world.ObjectId.{ObjectId}
use Rattle.sv_world.specs.declared.world.Shape.{Shape}
use Rattle.sv_pending.specs.Shapes.{IsLong}
use Rattle.sv_watch.specs.declared.change.Change.{Change}
use Rattle.sv_watch.specs.Told.{change_line, HasLength, IsChangeIn}
use Rattle.sv_client.specs.declared.trace.Event.{Event}
use Rattle.sv_client.specs.Traces.{view_of}
use Rattle.sv_client.specs.Taking.{Identity}
use Rattle.sv_client.specs.Proper.{IsGoodIdentity, AreProper, MayFollow}
use Rattle.sv_client.specs.declared.trace.TraceMark.{TraceMark}
use Rattle.sv_client.specs.declared.trace.TraceMark.TheVariants as marks
use Rattle.sv_client.specs.Seen.{ClientView, event_of_mark}
use Rattle.sv_scenario.specs.declared.scenario.Step.{Step}
use Rattle.sv_script.specs.Telling.{same_view, change_by, change_of, changes_of}
use Rattle.sv_script.specs.Laws.{may_tell}
use Rattle.sv_script.proofs.Told.{others-quiet}
use Rattle.sv_player.specs.declared.playing.Player.{Player}
use Rattle.sv_player.specs.Seen.{seen_of, seen_by, seen_again, change_since, changes_since}
use Rattle.sv_player.specs.Going.{told_objects, AreTold, IsGoing, Did}
use Rattle.sv_player.proofs.Sizes.{views_long}
use Rattle.sv_player.proofs.Seeing.{seen_anew, quiet_seen}

-- ---- The changes of an event

one_change : (c : ClientView) (n : ℕ) (t : List Event) (e : Event) (x : ObjectId) → c.events ≡ e ∷ t → n ≡ length (e ∷ t) → change_since c n (seen_of t x) ≡ change_of c.who.client t e x
one_change c n t e x es count = rw (es, count) refl

pub changes_are : (c : ClientView) (n : ℕ) (t : List Event) (e : Event) (xs : List ObjectId) → c.events ≡ e ∷ t → n ≡ length (e ∷ t) →
    changes_since c n (seen_by t xs) ≡ flat_map (change_of c.who.client t e) xs
changes_are c n t e [] es count = refl
changes_are c n t e (x ∷ xs) es count = ap₂ (λ (a b : List Change). a ++ b) (one_change c n t e x es count) (changes_are c n t e xs es count)

has_length : (n : ℕ) (o : Option (List ℤ)) → IfSome o (IsLong n) → HasLength n o
has_length n None h = tt
has_length n (Some v) h = h

change_in : (who : Identity) (t : List Event) (e : Event) (x : ObjectId) → AreProper who 0 t → AreProper who 0 (e ∷ t) → x.0 < who.shape.objects → All (IsChangeIn who.shape) (change_of who.client t e x)
change_in who t e x p q l = go (same_view (view_of t x.0) (view_of (e ∷ t) x.0))
  where
    go : (b : Bool) → All (IsChangeIn who.shape) (if b then [] else change_by who.client t e x ∷ [])
    go true = All-nil (IsChangeIn who.shape)
    go false =
        All-cons (IsChangeIn who.shape) (change_by who.client t e x) []
        (record { object = l; old = has_length who.shape.attrs (view_of t x.0) (views_long who 0 t p x.0); new = has_length who.shape.attrs (view_of (e ∷ t) x.0) (views_long who 0 (e ∷ t) q x.0) })
        (All-nil (IsChangeIn who.shape))

changes_from : (who : Identity) (t : List Event) (e : Event) (xs : List ObjectId) → AreProper who 0 t → AreProper who 0 (e ∷ t) → AllByRecursion (λ (o : ObjectId). o.0 < who.shape.objects) xs →
    All (IsChangeIn who.shape) (flat_map (change_of who.client t e) xs)
changes_from who t e [] p q all = All-nil (IsChangeIn who.shape)
changes_from who t e (x ∷ xs) p q all =
    All-append (IsChangeIn who.shape) (change_of who.client t e x) (flat_map (change_of who.client t e) xs) (change_in who t e x p q all.0) (changes_from who t e xs p q all.1)

-- The changes of an event of a proper trace are those of its world.
pub changes_in : (watched : Bool) (who : Identity) (t : List Event) (e : Event) → IsGoodIdentity who → AreProper who 0 t → AreProper who 0 (e ∷ t) →
    All (IsChangeIn who.shape) (flat_map (change_of who.client t e) (told_objects watched who))
changes_in true who t e good p q = changes_from who t e who.interest p q (recursion_from_All (λ (o : ObjectId). o.0 < who.shape.objects) who.interest good.objects)
changes_in false who t e good p q = All-nil (IsChangeIn who.shape)

-- ---- Events that were done

pub quiet_told : (watched : Bool) (who : Identity) (t : List Event) (e : Event) (old new : List (List ℕ)) → may_tell e ≡ false → new ≡ old → AreTold watched who t old → AreTold watched who (e ∷ t) new
quiet_told watched who t e old new quiet same told =
    same ∙ told ∙ ap (λ (cs : List Change). map change_line cs) (sym (others-quiet who.client (told_objects watched who) e t quiet))

pub changes_told : (watched : Bool) (who : Identity) (t : List Event) (e : Event) (old new : List (List ℕ)) → new ≡ old ++ map change_line (flat_map (change_of who.client t e) (told_objects watched who)) →
    AreTold watched who t old → AreTold watched who (e ∷ t) new
changes_told watched who t e old new more told =
    let changes = flat_map (change_of who.client t e) (told_objects watched who) in
    more ∙ ap (λ (ls : List (List ℕ)). ls ++ map change_line changes) told ∙ sym (map-append change_line (changes_of who.client (told_objects watched who) t) changes)

-- An event that changes no view.
pub did_quiet : (e : Event) (left : List Step) (p q : Player) → q.client.who ≡ p.client.who → q.client.events ≡ e ∷ p.client.events → q.script.now ≡ p.script.now → q.first ≡ p.first → q.watched ≡ p.watched →
    q.left.now ≡ left → q.lines.items ≡ p.lines.items → q.seen.items ≡ p.seen.items → q.count ≡ suc p.count → may_tell e ≡ false → Did e left p q
did_quiet e left p q who es script first watched l lines same count quiet =
    record {
      who = who;
      events = es;
      script = script;
      first = first;
      watched = watched;
      left_is = l;
      told = quiet_told p.watched p.client.who p.client.events e p.lines.items q.lines.items quiet lines;
      seen = λ saw. same ∙ saw ∙ quiet_seen e p.client.events (told_objects p.watched p.client.who) quiet;
      count = count;
    }

-- A mark changes no view.
pub mark_quiet : (mark : TraceMark) → may_tell (event_of_mark mark) ≡ false
mark_quiet marks.Cut = refl
mark_quiet marks.Quit = refl
mark_quiet (marks.Show objects) = refl

-- Where nobody watches, no object is seen.
pub unseen : (p : Player) (watched : Bool) → IsGoing p → p.watched ≡ watched → watched ≡ false → p.seen.items ≡ []
unseen p watched going same none = going.seen ∙ ap (λ (w : Bool). seen_by p.client.events (told_objects w p.client.who)) (same ∙ none)

-- ---- Events that change views

module _ (p : Player) (going : IsGoing p) (c : ClientView) (e : Event) (who : c.who ≡ p.client.who) (es : c.events ≡ e ∷ p.client.events) where
  abbrev objects : List ObjectId
  objects = told_objects p.watched p.client.who

  same_changes : changes_since c (suc p.count) p.seen.items ≡ flat_map (change_of p.client.who.client p.client.events e) objects
  same_changes =
      ap (changes_since c (suc p.count)) going.seen
      ∙ changes_are c (suc p.count) p.client.events e objects es (ap suc going.count)
      ∙ ap (λ (w : Identity). flat_map (change_of w.client p.client.events e) objects) who

  -- The changes are those of the watch's worlds.
  pub event_changes : (shape : Shape) → shape ≡ p.client.who.shape → MayFollow p.client.who 0 p.client.events e → All (IsChangeIn shape) (changes_since c (suc p.count) p.seen.items)
  event_changes shape is may =
      subst (λ (s : Shape). All (IsChangeIn s) (changes_since c (suc p.count) p.seen.items)) (sym is)
      (subst (All (IsChangeIn p.client.who.shape)) (sym same_changes) (changes_in p.watched p.client.who p.client.events e going.may.identity going.proper (may, going.proper)))

  -- So they are for whoever watches.
  pub changes_for : {W : Type 0} (shape_of : W → Shape) (watch : Option W) → IfSome watch (λ w. shape_of w ≡ p.client.who.shape) → MayFollow p.client.who 0 p.client.events e →
      IfSome watch (λ w. All (IsChangeIn (shape_of w)) (changes_since c (suc p.count) p.seen.items))
  changes_for shape_of None fits may = tt
  changes_for shape_of (Some w) fits may = event_changes (shape_of w) fits may

  -- They were told.
  pub did_told : (left : List Step) (q : Player) → q.client ≡ c → q.script.now ≡ p.script.now → q.first ≡ p.first → q.watched ≡ p.watched → q.left.now ≡ left →
      q.lines.items ≡ p.lines.items ++ map change_line (changes_since c (suc p.count) p.seen.items) → q.seen.items ≡ seen_again c.events p.seen.items → q.count ≡ suc p.count → Did e left p q
  did_told left q client script first watched l lines again count =
      record {
        who = ap (λ (v : ClientView). v.who) client ∙ who;
        events = ap (λ (v : ClientView). v.events) client ∙ es;
        script = script;
        first = first;
        watched = watched;
        left_is = l;
        told = changes_told p.watched p.client.who p.client.events e p.lines.items q.lines.items (lines ∙ ap (λ (cs : List Change). p.lines.items ++ map change_line cs) same_changes);
        seen = λ saw. again ∙ ap (seen_again c.events) saw ∙ seen_anew p.client.events c.events objects ∙ ap (λ (t : List Event). seen_by t objects) es;
        count = count;
      }
