-- A trace that fits the journal of a server but for the values that its Dones report: its other requests are those that it asked.
use Rattle.std.proofs.Common.{◌≡◌, ℕ, ◌==◌, Bool, true, false, ◌||◌, ◌&&◌, not, nat_lt, List, [], ◌∷◌, map, length, ℤ, Some, slice_get, refl, sym, ap, ap₂, ◌∙◌, true≢false, subst}
use Rattle.std.specs.List.{list_any, list_all}
use Rattle.std.proofs.lemmas.List.{length-map}
use Rattle.std.proofs.lemmas.Option.{same_Some}
use Rattle.sv_world.specs.declared.world.Shape.{Shape}
use Rattle.sv_world.specs.Control.{is_in, action_at}
use Rattle.sv_world.specs.Faults.{is_ascending}
use Rattle.sv_world.specs.Sets.{write_set}
use Rattle.sv_pending.specs.Pending.{PendingAction}
use Rattle.sv_wire.specs.declared.message.Done1.{Done1}
use Rattle.sv_wire.specs.declared.message.Request.{Request}
use Rattle.sv_wire.specs.declared.message.Request.TheVariants as requests
use Rattle.sv_wire.specs.declared.message.Reply.{Reply}
use Rattle.sv_wire.specs.declared.message.Reply.TheVariants as replies
use Rattle.sv_journal.specs.declared.entry.Entry.{Entry}
use Rattle.sv_journal.specs.History.{accepted, actions_of, commit_of}
use Rattle.sv_journal.specs.Sessions.{sent_to}
use Rattle.sv_journal.specs.Answer.{Rules, is_bad_result, is_bad_done}
use Rattle.sv_journal.specs.Serving.{Keeping, LegalFor, IsKeeping}
use Rattle.sv_client.specs.declared.trace.Trace.{Trace}
use Rattle.sv_client.specs.Traces.{requests_of}
use Rattle.sv_client.specs.Kinds.{kind_of}
use Rattle.sv_client.specs.Taking.{Identity, allows, has_bad_item}
use Rattle.law_system.specs.Fronts.{IsFront}
use Rattle.law_system.specs.Fits.{requests_in, FitsIn, FitsOne}
use Rattle.law_system.specs.Served.{HaveSameForm, AreSameButValues, FitsInButValues, FitsButValues}
use Rattle.law_system.proofs.Places.{unmap_at}

-- A journal that is legal for a keeping, and a trace that fits it but for the values that its Dones report.
pub record IsServed (K : Keeping) (r : Rules) (H : List Entry) (L : Trace) : Type 0 where
  pub keeps : IsKeeping K
  pub legal : LegalFor K r H
  pub fits : FitsButValues r.world.shape H L

abbrev pub is_done : Request → Bool
is_done (requests.Done results) = true
is_done _ = false

abbrev results_in : Request → List Done1
results_in (requests.Done results) = results
results_in _ = []

-- ---- Requests that are the same but for values

same-form : (xs : List Done1) → HaveSameForm xs xs
same-form [] = tt
same-form (x ∷ xs) = (refl, (refl, same-form xs))

pub same-request : (q : Request) → AreSameButValues q q
same-request (requests.Done results) = (results, (refl, same-form results))
same-request (requests.Join client life interest) = refl
same-request (requests.Submit seq a) = refl
same-request requests.Poll = refl
same-request (requests.Observe objects wait) = refl
same-request requests.Leave = refl
same-request requests.Bad = refl
same-request requests.End = refl

-- They are equal where the first is no Done.
first-other : (p q : Request) → AreSameButValues p q → is_done p ≡ false → q ≡ p
first-other (requests.Done results) q t f = absurd (true≢false f)
first-other (requests.Join client life interest) q t f = sym t
first-other (requests.Submit seq a) q t f = sym t
first-other requests.Poll q t f = sym t
first-other (requests.Observe objects wait) q t f = sym t
first-other requests.Leave q t f = sym t
first-other requests.Bad q t f = sym t
first-other requests.End q t f = sym t

-- They are equal where the second is none.
second-other : (p q : Request) → AreSameButValues p q → is_done q ≡ false → p ≡ q
second-other (requests.Done results) q t f = absurd (true≢false (sym (ap is_done t.1.0) ∙ f))
second-other (requests.Join client life interest) q t f = t
second-other (requests.Submit seq a) q t f = t
second-other requests.Poll q t f = t
second-other (requests.Observe objects wait) q t f = t
second-other requests.Leave q t f = t
second-other requests.Bad q t f = t
second-other requests.End q t f = t

-- The request that is the same as one that is no Done.
pub request-other : (p q j : Request) → AreSameButValues p q → p ≡ j → is_done j ≡ false → q ≡ j
request-other p q j t e f = first-other p q t (ap is_done e ∙ f) ∙ e

-- The Done that is the same as one of these results.
pub done-other : (p : Request) (results : List Done1) → AreSameButValues p (requests.Done results) → (own : List Done1) × ((p ≡ requests.Done own) × HaveSameForm own results)
done-other (requests.Done own) results t = (own, (refl, subst (HaveSameForm own) (sym (ap results_in t.1.0)) t.1.1))
done-other (requests.Join client life interest) results t = absurd (true≢false (sym (ap is_done t)))
done-other (requests.Submit seq a) results t = absurd (true≢false (sym (ap is_done t)))
done-other requests.Poll results t = absurd (true≢false (sym (ap is_done t)))
done-other (requests.Observe objects wait) results t = absurd (true≢false (sym (ap is_done t)))
done-other requests.Leave results t = absurd (true≢false (sym (ap is_done t)))
done-other requests.Bad results t = absurd (true≢false (sym (ap is_done t)))
done-other requests.End results t = absurd (true≢false (sym (ap is_done t)))

-- ---- What a trace asks

module _ (h : List Entry) (L : Trace) (s : ℕ) (fits : FitsInButValues h L s) (n : ℕ) where
  -- A request of the journal that is no Done is the one that the trace asks in its place.
  pub asked-there : (q : Request) → is_done q ≡ false → slice_get (requests_in h s) n ≡ Some q → slice_get (requests_of L s) n ≡ Some q
  asked-there q f e = let x = fits.asked n q e in x.1.0 ∙ ap Some (second-other x.0 q x.1.1 f)

  -- In the place of a request that is no Done the journal has that one.
  pub entered-as : (q j : Request) → slice_get (requests_in h s) n ≡ Some q → slice_get (requests_of L s) n ≡ Some j → is_done j ≡ false → q ≡ j
  entered-as q j e there f = let x = fits.asked n q e in request-other x.0 q j x.1.1 (same_Some x.0 j (sym x.1.0 ∙ there)) f

fits-in : (h : List Entry) (L : Trace) (s : ℕ) → FitsIn h L s → FitsInButValues h L s
fits-in h L s f = record { got = f.got; asked = λ i q e. (q, (f.asked i q e, same-request q)); ended = f.ended }

-- A trace that fits does so but for no values.
pub fits-but_values : (shape : Shape) (h : List Entry) (L : Trace) → FitsOne shape h L → FitsButValues shape h L
fits-but_values shape h L f = record { trace = f.trace; sessions = λ s has. fits-in h L s (f.sessions s has) }

-- So is a trace of which the journal has what a function makes of its requests that changes values alone.
pub asked-but : (f : Request → Request) → ((p : Request) → AreSameButValues p (f p)) → (qs rs : List Request) → IsFront qs (map f rs) → (i : ℕ) (q : Request) → slice_get qs i ≡ Some q →
    (p : Request) × ((slice_get rs i ≡ Some p) × AreSameButValues p q)
asked-but f alike qs rs front i q e =
    let x = unmap_at f rs i q (front i q e) in
    (x.0, (x.1, subst (AreSameButValues x.0) x.2 (alike x.0)))

-- ---- Replies and faults

done-allows : (xs ys : List Done1) (reply : Reply) → allows (requests.Done xs) reply ≡ allows (requests.Done ys) reply
done-allows xs ys (replies.Noted commit) = refl
done-allows xs ys (replies.Welcome commit head) = refl
done-allows xs ys (replies.Relay seq commit head items) = refl
done-allows xs ys (replies.Dropped seq chain far) = refl
done-allows xs ys (replies.Denied seq object) = refl
done-allows xs ys (replies.Seen last commit head items) = refl
done-allows xs ys (replies.Settled seq pos) = refl
done-allows xs ys replies.Idle = refl
done-allows xs ys (replies.Refused code detail) = refl
done-allows xs ys replies.Bye = refl

-- The same replies are allowed.
pub same-allows : (p q : Request) → AreSameButValues p q → (reply : Reply) → allows p reply ≡ allows q reply
same-allows (requests.Done results) q t reply = done-allows results t.0 reply ∙ ap (λ (z : Request). allows z reply) (sym t.1.0)
same-allows (requests.Join client life interest) q t reply = ap (λ (z : Request). allows z reply) t
same-allows (requests.Submit seq a) q t reply = ap (λ (z : Request). allows z reply) t
same-allows requests.Poll q t reply = ap (λ (z : Request). allows z reply) t
same-allows (requests.Observe objects wait) q t reply = ap (λ (z : Request). allows z reply) t
same-allows requests.Leave q t reply = ap (λ (z : Request). allows z reply) t
same-allows requests.Bad q t reply = ap (λ (z : Request). allows z reply) t
same-allows requests.End q t reply = ap (λ (z : Request). allows z reply) t

-- They are of the same kind.
pub same-kind : (p q : Request) → AreSameButValues p q → kind_of p ≡ kind_of q
same-kind (requests.Done results) q t = ap kind_of (sym t.1.0)
same-kind (requests.Join client life interest) q t = ap kind_of t
same-kind (requests.Submit seq a) q t = ap kind_of t
same-kind requests.Poll q t = ap kind_of t
same-kind (requests.Observe objects wait) q t = ap kind_of t
same-kind requests.Leave q t = ap kind_of t
same-kind requests.Bad q t = ap kind_of t
same-kind requests.End q t = ap kind_of t

done-items : (who : Identity) (ps : List PendingAction) (xs ys : List Done1) (reply : Reply) → has_bad_item who ps (requests.Done xs) reply ≡ has_bad_item who ps (requests.Done ys) reply
done-items who ps xs ys (replies.Noted commit) = refl
done-items who ps xs ys (replies.Welcome commit head) = refl
done-items who ps xs ys (replies.Relay seq commit head items) = refl
done-items who ps xs ys (replies.Dropped seq chain far) = refl
done-items who ps xs ys (replies.Denied seq object) = refl
done-items who ps xs ys (replies.Seen last commit head items) = refl
done-items who ps xs ys (replies.Settled seq pos) = refl
done-items who ps xs ys replies.Idle = refl
done-items who ps xs ys (replies.Refused code detail) = refl
done-items who ps xs ys replies.Bye = refl

-- The same items are bad.
pub same-items : (who : Identity) (ps : List PendingAction) (p q : Request) → AreSameButValues p q → (reply : Reply) → has_bad_item who ps p reply ≡ has_bad_item who ps q reply
same-items who ps (requests.Done results) q t reply = done-items who ps results t.0 reply ∙ ap (λ (z : Request). has_bad_item who ps z reply) (sym t.1.0)
same-items who ps (requests.Join client life interest) q t reply = ap (λ (z : Request). has_bad_item who ps z reply) t
same-items who ps (requests.Submit seq a) q t reply = ap (λ (z : Request). has_bad_item who ps z reply) t
same-items who ps requests.Poll q t reply = ap (λ (z : Request). has_bad_item who ps z reply) t
same-items who ps (requests.Observe objects wait) q t reply = ap (λ (z : Request). has_bad_item who ps z reply) t
same-items who ps requests.Leave q t reply = ap (λ (z : Request). has_bad_item who ps z reply) t
same-items who ps requests.Bad q t reply = ap (λ (z : Request). has_bad_item who ps z reply) t
same-items who ps requests.End q t reply = ap (λ (z : Request). has_bad_item who ps z reply) t

-- ---- Results of the same form

abbrev long_all : ℕ → List ℕ → Bool
long_all n ls = list_all (λ l. l == n) ls

lengths-of : (n : ℕ) (vs : List (List ℤ)) → list_all (λ (v : List ℤ). length v == n) vs ≡ long_all n (map (λ (v : List ℤ). length v) vs)
lengths-of n [] = refl
lengths-of n (v ∷ vs) = ap (λ (b : Bool). (length v == n) && b) (lengths-of n vs)

module _ (r : Rules) (g : List Entry) (s : ℕ) where
  -- The test of a result looks at its position and at how long its values are.
  abbrev bad_form : ℕ → List ℕ → Bool
  bad_form p ls = p == 0 || nat_lt (length (accepted g)) p || (nat_lt (commit_of g) p && (not (is_in p (sent_to g s))
      || not (length ls == length (write_set (action_at (actions_of g) p))) || not (long_all r.world.shape.attrs ls)))

  form-of : (d : Done1) → is_bad_result r g s d ≡ bad_form d.pos (map (λ (v : List ℤ). length v) d.values)
  form-of d =
      ap₂ (λ (n : ℕ) (b : Bool). d.pos == 0 || nat_lt (length (accepted g)) d.pos || (nat_lt (commit_of g) d.pos && (not (is_in d.pos (sent_to g s))
      || not (n == length (write_set (action_at (actions_of g) d.pos))) || not b)))
      (sym (length-map d.values (λ (v : List ℤ). length v))) (lengths-of r.world.shape.attrs d.values)

  results-form : (xs ys : List Done1) → HaveSameForm xs ys → list_any (is_bad_result r g s) xs ≡ list_any (is_bad_result r g s) ys
  results-form [] [] h = refl
  results-form [] (y ∷ ys) h = absurd h
  results-form (x ∷ xs) [] h = absurd h
  results-form (x ∷ xs) (y ∷ ys) h =
      ap₂ (λ (a b : Bool). a || b) (form-of x ∙ ap₂ bad_form h.0 h.1.0 ∙ sym (form-of y)) (results-form xs ys h.1.1)

  places-form : (xs ys : List Done1) → HaveSameForm xs ys → map (λ (d : Done1). d.pos) xs ≡ map (λ (d : Done1). d.pos) ys
  places-form [] [] h = refl
  places-form [] (y ∷ ys) h = absurd h
  places-form (x ∷ xs) [] h = absurd h
  places-form (x ∷ xs) (y ∷ ys) h = ap₂ (λ (p : ℕ) (ps : List ℕ). p ∷ ps) h.0 (places-form xs ys h.1.1)

  -- A Done of results of the same form is bad just where the other is.
  pub done-form : (xs ys : List Done1) → HaveSameForm xs ys → is_bad_done r g s xs ≡ is_bad_done r g s ys
  done-form xs ys h =
      let places = places-form xs ys h in
      let size : length xs ≡ length ys = sym (length-map xs (λ (d : Done1). d.pos)) ∙ ap length places ∙ length-map ys (λ (d : Done1). d.pos) in
      ap₂ (λ (n : ℕ) (ps : List ℕ). n == 0 || nat_lt 33 n || not (is_ascending ps) || list_any (is_bad_result r g s) xs) size places
      ∙ ap (λ (b : Bool). length ys == 0 || nat_lt 33 (length ys) || not (is_ascending (map (λ (d : Done1). d.pos) ys)) || b) (results-form xs ys h)
