-- What a player left of steady ends, told of the ends themselves.
use Rattle.std.proofs.Common.{◌≡◌, ◌⊎◌, ℕ, ◌+◌, ◌<◌, List, map, length, slice_get, Some, refl, sym, ap, subst, ◌∙◌, arith}
use Rattle.std.specs.List.{AllByRecursion}
use Rattle.std.proofs.lemmas.List.{length-map}
use Rattle.std.proofs.lemmas.Option.{slice_get_within}
use Rattle.sv_world.specs.declared.world.Shape.{Shape}
use Rattle.sv_link.specs.Ends.{Told}
use Rattle.sv_client.specs.declared.trace.Trace.{Trace}
use Rattle.sv_player.specs.Played.{IsDone, IsIdle, IsOpenSession, AreDone, HasFault, IsCause}
use Rattle.sv_player.specs.Sessions.{IsFresh}
use Rattle.sv_player.specs.declared.outcome.PlayerCause.{PlayerCause}
use Rattle.sv_player.specs.declared.outcome.PlayerCause.TheVariants as causes
use Rattle.sv_join.specs.declared.steady.Steady.{Steady}
use Rattle.sv_join.specs.Joining.{IsNewAt, IsNewEnd}
use Rattle.law_system.specs.Places.{EachPlace}
use Rattle.law_system.proofs.Places.{each_all, at_place, map_at, unmap_at}

abbrev pub inner : {E : Type 0} → Steady E → E
inner s = s.end

module _ {E : Type 0} (told : E → Told) (faults : E → ℕ) (calm : E → Type 0) where
  abbrev pub steady_told : Steady E → Told
  steady_told s = told s.end

  abbrev pub steady_faults : Steady E → ℕ
  steady_faults s = faults s.end

  abbrev pub steady_calm : Steady E → Type 0
  steady_calm s = calm s.end × (faults s.end ≡ 0)

module _ {E : Type 0} (told : E → Told) (faults : E → ℕ) (calm : E → Type 0) (trace : Trace) (cause : PlayerCause) (old new : List (Steady E))
    (done : AreDone (steady_told told faults calm) (steady_faults told faults calm) (steady_calm told faults calm) trace cause 0 old new) where
  pub done_inside : ((k : ℕ) (a : Steady E) → slice_get old k ≡ Some a → faults a.end ≡ 0) → AreDone told faults calm trace cause 0 (map inner old) (map inner new)
  done_inside none = record {
    count = length-map new inner ∙ (done.count ∙ sym (length-map old inner));
    each = λ k a b ea eb.
        let x = unmap_at inner old k a ea in
        let y = unmap_at inner new k b eb in
        subst (λ (e : E). IsDone trace cause (0 + k) (told e) (told b)) x.2 (subst (λ (e : E). IsDone trace cause (0 + k) (told x.0.end) (told e)) y.2 (done.each k x.0 y.0 x.1 y.1));
    idle = λ k b eb few.
        let y = unmap_at inner new k b eb in
        subst (λ (e : E). IsIdle trace (0 + k) (told e)) y.2 (done.idle k y.0 y.1 few);
    faults_are = λ k a b ea eb.
        let x = unmap_at inner old k a ea in
        let y = unmap_at inner new k b eb in
        subst (λ (e : E). (faults b ≡ faults e) ⊎ ((cause ≡ causes.LinkFault) × IsOpenSession trace (0 + k))) x.2
        (subst (λ (e : E). (faults e ≡ faults x.0.end) ⊎ ((cause ≡ causes.LinkFault) × IsOpenSession trace (0 + k))) y.2 (done.faults_are k x.0 y.0 x.1 y.1));
    calm_is = λ k a b ea eb quiet.
        let x = unmap_at inner old k a ea in
        let y = unmap_at inner new k b eb in
        subst calm y.2 (done.calm_is k x.0 y.0 x.1 y.1 (subst calm (sym x.2) quiet, none k x.0 x.1)).0;
  }

  -- Where its calls can't fail, no end has a fault.
  pub no_fault : (S : Type 0) (made : ℕ) → EachPlace (λ j (s : Steady E). IsNewEnd told faults calm S (made + j) s.end) old → S
      → HasFault (steady_told told faults calm) (steady_faults told faults calm) (steady_calm told faults calm) trace 0 old new → ⊥
  no_fault S made news sure fault =
      let was = news fault.place fault.before fault.was in
      let still = (done.calm_is fault.place fault.before fault.after fault.was fault.is (was.calm_is sure, was.is.1)).1 in
      let rose = fault.rose in
      omega (arith, still, rose)

  -- The ends can be given back: the door made them.
  pub all_own : (S : Type 0) (made : ℕ) → EachPlace (λ j (s : Steady E). IsNewEnd told faults calm S (made + j) s.end) old
      → AllByRecursion (λ (s : Steady E). (told s.end).pair < made + length old) new
  all_own S made news =
      each_all (λ k (s : Steady E). (told s.end).pair < made + length old) (λ (s : Steady E). (told s.end).pair < made + length old) new
      (λ k b eb.
      let low = slice_get_within new k b eb in
      let count = done.count in
      let x = at_place old k (omega (arith, low, count)) in
      let was = ap (λ (t : Told). t.pair) (news k x.0 x.1).is.0 in
      let same = (done.each k x.0 b x.1 eb).pair in
      omega (arith, was, same, low, count))
      (λ k s own. own)

module _ {E : Type 0} (told : E → Told) (faults : E → ℕ) (calm : E → Type 0) where
  pub cause_inside : (shape : Shape) (trace : Trace) (cause : PlayerCause) (old new : List (Steady E))
      → IsCause (steady_told told faults calm) (steady_faults told faults calm) (steady_calm told faults calm) shape trace 0 old new cause
      → IsCause told faults calm shape trace 0 (map inner old) (map inner new) cause
  cause_inside shape trace causes.Finished old new c = c
  cause_inside shape trace causes.Quit old new c = c
  cause_inside shape trace causes.LinkFault old new c =
      record {
        place = c.place;
        before = c.before.end;
        after = c.after.end;
        was = map_at inner old c.place c.before c.was;
        is = map_at inner new c.place c.after c.is;
        rose = c.rose;
        session = c.session;
      }
  cause_inside shape trace causes.Closed old new c =
      record { place = c.place; after = c.after.end; is = map_at inner new c.place c.after c.is; session = c.session; shows = c.shows }
  cause_inside shape trace (causes.BadReply session payload fault) old new c =
      record { place = c.place; after = c.after.end; is = map_at inner new c.place c.after c.is; session = c.session; shows = c.shows }
  cause_inside shape trace causes.Memory old new c = tt

  pub new_inside : (S : Type 0) (made : ℕ) (old : List (Steady E)) → EachPlace (λ j (s : Steady E). IsNewEnd told faults calm S (made + j) s.end) old
      → EachPlace (λ j end. IsNewAt told faults (made + j) end) (map inner old)
  new_inside S made old news = λ k a ea.
      let x = unmap_at inner old k a ea in
      let is = news k x.0 x.1 in
      subst (λ (e : E). IsNewAt told faults (made + k) e) x.2 is.is

  -- Nothing was sent or received over new ends.
  pub all_fresh : (S : Type 0) (made : ℕ) (old : List (Steady E)) → EachPlace (λ j (s : Steady E). IsNewEnd told faults calm S (made + j) s.end) old
      → AllByRecursion (λ (s : Steady E). IsFresh (told s.end)) old
  all_fresh S made old news =
      each_all (λ k (s : Steady E). IsNewEnd told faults calm S (made + k) s.end) (λ (s : Steady E). IsFresh (told s.end)) old news
      (λ k s is. subst IsFresh (sym is.is.0) (record { open_is = refl; sent = refl; received = refl }))
