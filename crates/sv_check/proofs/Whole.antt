-- What a client did that came to its end.
use Rattle.std.proofs.Common.{◌≡◌, ◌⊎◌, inl, inr, ℕ, Bool, true, false, List, reverse, sym, ap, subst, ◌∙◌}
use Rattle.std.specs.List.{list_any}
use Rattle.std.proofs.lemmas.List.{reverse-reverse}
use Rattle.sv_world.specs.declared.world.Shape.{Shape}
use Rattle.sv_journal.specs.declared.entry.Entry.{Entry}
use Rattle.sv_journal.specs.History.{accepted}
use Rattle.sv_client.specs.declared.trace.Event.{Event}
use Rattle.sv_client.specs.declared.trace.Trace.{Trace}
use Rattle.sv_client.specs.Traces.{asked, got}
use Rattle.sv_client.specs.Taking.{Identity}
use Rattle.sv_client.specs.Proper.{Proper, identity_of}
use Rattle.sv_client.specs.Seen.{trace_from}
use Rattle.sv_scenario.specs.declared.scenario.Plan.{Plan}
use Rattle.sv_script.specs.Following.{FollowsTo, is_finished}
use Rattle.sv_script.proofs.Shifted.{up_follows, up_finished}
use Rattle.law_system.specs.Fits.{is_join_of, requests_in, replies_in}
use Rattle.law_system.specs.Fronts.{IsFront}
use Rattle.law_system.proofs.Asked.{current-joined, any-turned}
use Rattle.sv_check.specs.declared.actor.Actor.{Actor}
use Rattle.sv_check.specs.Parts.{IsWholeTrace, IsOf}
use Rattle.sv_check.specs.Acting.{IsActing, IsSettled, IsAmiss, LookedAt, identity, journal_events}
use Rattle.sv_check.proofs.Acting.{begun_settled, latest_settled, latest_amiss}

module _ (entries : List Entry) (a : Actor) (shape : Shape) (plan : Plan) (g : IsActing entries a) where
  abbrev M : Trace
  M = trace_from a.first a.client

  back : reverse M.events ≡ journal_events a
  back = reverse-reverse (journal_events a)

  -- Its trace is whole where each of its sessions is settled.
  whole : a.finished ≡ true → a.client.who.shape ≡ shape → a.script.now ≡ plan.steps → Proper shape M →
      ((s : ℕ) → list_any (is_join_of s) (journal_events a) ≡ true → IsSettled (reverse entries) (asked a.client.who.client a.client.who.interest (journal_events a) s) s) →
      IsWholeTrace shape (reverse entries) plan M
  whole done same script proper settled =
      let who_is : a.client.who ≡ identity_of shape M = ap (λ (x : Shape). record { client = a.client.who.client; interest = a.client.who.interest; shape = x }) same in
      record {
        proper = proper;
        follows = record {
          follows = record {
            left = a.left.now;
            follows = subst (λ (u : List Event). FollowsTo (identity_of shape M) plan.steps u a.left.now) (sym back)
                (subst (λ ss. FollowsTo (identity_of shape M) ss (journal_events a) a.left.now) script
                (subst (λ (w : Identity). FollowsTo w a.script.now (journal_events a) a.left.now) who_is (up_follows a.first a.client.who a.script.now a.client.events a.left.now g.follows)));
          };
          finished = ap is_finished back ∙ up_finished a.first a.client.events ∙ sym g.flags.finished ∙ done;
        };
        fits = λ s h.
            let has = subst (λ (u : List Event). list_any (is_join_of s) u ≡ true) back (any-turned (is_join_of s) M.events h) in
            let here = settled s has in
            record {
              got = subst (λ (u : List Event). IsFront (got u s) (replies_in (accepted (reverse entries)) (reverse entries) s)) (sym back) (g.gets.fronts s);
              asked = subst (λ (u : List Event). IsFront (requests_in (reverse entries) s) (asked a.client.who.client a.client.who.interest u s)) (sym back) here.front;
              ended = here.ended;
            };
      }

  -- Each session of a whole trace is settled.
  settled_in : IsWholeTrace shape (reverse entries) plan M → (s : ℕ) → list_any (is_join_of s) (journal_events a) ≡ true →
      IsSettled (reverse entries) (asked a.client.who.client a.client.who.interest (journal_events a) s) s
  settled_in w s j =
      let fits = w.fits s (any-turned (is_join_of s) (journal_events a) j) in
      record {
        front = subst (λ (u : List Event). IsFront (requests_in (reverse entries) s) (asked a.client.who.client a.client.who.interest u s)) back fits.asked;
        ended = fits.ended;
      }

  -- Where a session is not settled, the trace is not whole.
  unfit_of : (fits : Bool) → ((fits ≡ false) → (a.fits ≡ false) ⊎ IsAmiss entries a) → fits ≡ false → IsWholeTrace shape (reverse entries) plan M → ⊥
  unfit_of fits unfit f w =
      elim (unfit f) [
        | inl old ↦ (let u = g.asks.unfit old in u.1.not_settled (settled_in w u.0 u.1.begun))
        | inr new ↦ (let l = latest_amiss entries a g new in l.not_settled (settled_in w l.which (current-joined (journal_events a) l.which l.latest)))
      ]

-- The trace is the same after its sessions were looked at.
same_trace : (entries : List Entry) (a b : Actor) → LookedAt entries a b → trace_from b.first b.client ≡ trace_from a.first a.client
same_trace entries a b d = ap (λ (x : Actor). trace_from x.first x.client) d.same

pub finished : (entries : List Entry) (a b : Actor) (number : ℕ) (shape : Shape) (plan : Plan) (L : Trace) → IsActing entries a → a.finished ≡ true → LookedAt entries a b → b.fits ≡ true →
    a.client.who ≡ identity number shape plan → a.script.now ≡ plan.steps → L ≡ trace_from b.first b.client → Proper b.client.who.shape L → IsWholeTrace shape (reverse entries) plan L
finished entries a b number shape plan L g done d fits who script is proper =
    let same : L ≡ trace_from a.first a.client = is ∙ same_trace entries a b d in
    let shape_is : a.client.who.shape ≡ shape = ap (λ (w : Identity). w.shape) who in
    let proper_is : Proper shape L = subst (λ (x : Shape). Proper x L) (ap (λ (x : Actor). x.client.who.shape) d.same ∙ shape_is) proper in
    let all = d.fits fits in
    subst (λ (M : Trace). IsWholeTrace shape (reverse entries) plan M) (sym same)
    (whole entries a shape plan g done shape_is script (subst (Proper shape) same proper_is)
    (begun_settled entries a.client.who (journal_events a) a.asked.items a.fits g.asks (latest_settled entries a g all.1) all.0))

pub unfit : (entries : List Entry) (a b : Actor) (shape : Shape) (plan : Plan) → IsActing entries a → LookedAt entries a b → b.fits ≡ false →
    IsWholeTrace shape (reverse entries) plan (trace_from a.first a.client) → ⊥
unfit entries a b shape plan g d f w = unfit_of entries a shape plan g b.fits d.unfit f w

pub trace_is : (entries : List Entry) (a b : Actor) (L : Trace) → LookedAt entries a b → L ≡ trace_from b.first b.client → L ≡ trace_from a.first a.client
trace_is entries a b L d is = is ∙ same_trace entries a b d

pub of_part : (entries : List Entry) (a b : Actor) (number first : ℕ) (shape : Shape) (plan : Plan) (L : Trace) → LookedAt entries a b → a.client.who ≡ identity number shape plan → a.first ≡ first →
    L ≡ trace_from b.first b.client → IsOf number first plan L
of_part entries a b number first shape plan L d who from is =
    let who_is : b.client.who ≡ identity number shape plan = ap (λ (x : Actor). x.client.who) d.same ∙ who in
    record {
      client = ap (λ (M : Trace). M.client) is ∙ ap (λ (w : Identity). w.client) who_is;
      interest = ap (λ (M : Trace). M.interest) is ∙ ap (λ (w : Identity). w.interest) who_is;
      first_is = ap (λ (M : Trace). M.first) is ∙ ap (λ (x : Actor). x.first) d.same ∙ from;
    }
