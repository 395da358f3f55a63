-- A log that goes on in its next segment.
use Rattle.std.proofs.Common.{◌≡◌, ◌≢◌, ◌⊎◌, inl, inr, ⊎_elim, ℕ, ◌+◌, ◌<◌, ◌≤◌, true, false, List, [], ◌∷◌, ◌++◌, length, Option, Some, None, refl, sym, ◌∙◌, ap, subst, arith, append_assoc}
use Rattle.std.specs.Str.{bytes_eq}
use Rattle.std.proofs.lemmas.Bool.{cases_Bool, false≢true}
use Rattle.std.proofs.lemmas.List.{append-nil}
use Rattle.std.proofs.lemmas.Slice.Eq.{bytes_eq-Decides}
use Rattle.sv_log.specs.Pictures.{Picture}
use Rattle.sv_log.specs.Crashes.{SameBut}
use Rattle.sv_log.specs.Texts.{whole_in}
use Rattle.sv_log.specs.Rests.{Tells}
use Rattle.sv_log.specs.Names.{segment_name, state_name, world_name, IsNumber, IsWrongName}
use Rattle.sv_log.specs.Chains.{StateFile, lines, text_at, text_of, state_at, NoneBetween, IsClosed, IsLog, HasLog, SameLog}
use Rattle.sv_log.proofs.Chained.{closed_same, newest_same, state_same, lines_at}
use Rattle.sv_log.proofs.Numbers.{segment_injective, segment_state, segment_world}
use Rattle.sv_log.proofs.Quiet.{holds_same}

-- one closed segment more
pub closed_more : (p : Picture) (n : ℕ) (ms : List ℕ) (l : ℕ) → IsClosed p n ms l → IsNumber l → p (segment_name l) ≡ Some (text_at p l) → text_at p l ≢ [] → NoneBetween p (l + 1) (l + lines (text_at p l))
    → IsClosed p n (ms ++ l ∷ []) (l + lines (text_at p l))
closed_more p n [] l is number file some none =
    subst (λ (k : ℕ). IsClosed p k (l ∷ []) (l + lines (text_at p l))) (sym is) (refl, number, file, some, none, refl)
closed_more p n (m ∷ ms) l h number file some none = (h.0, h.1, h.2, h.3, h.4, closed_more p (n + lines (text_at p n)) ms l h.5 number file some none)

pub text_more_of : (p : Picture) (ms : List ℕ) (l : ℕ) → text_of p (ms ++ l ∷ []) ≡ text_of p ms ++ text_at p l
text_more_of p [] l = append-nil (text_at p l)
text_more_of p (m ∷ ms) l = ap (λ (t : List ℕ). text_at p m ++ t) (text_more_of p ms l) ∙ sym (append_assoc (text_at p m) (text_of p ms) (text_at p l))

module _ (p : Picture) (state : ℕ) (closed : List ℕ) (last : ℕ) (log : IsLog p state closed last) (exact : p (segment_name last) ≡ Some (text_at p last)) (some : text_at p last ≢ [])
    (next : ℕ) (number : IsNumber next) (is : next ≡ last + lines (text_at p last)) (c : Picture) (same : SameBut (segment_name next) c p) where
  later : last < next
  later = let more = lines_at p last some in omega (arith, is, more)

  others : (m : ℕ) → IsNumber m → m ≢ next → c (segment_name m) ≡ p (segment_name m)
  others m num ne = same (segment_name m) (λ e. ne (segment_injective m next num number e))

  chain : IsClosed c (state + 1) closed last × (text_of c closed ≡ text_of p closed)
  chain = closed_same p c (state + 1) closed last (λ k num less. others k num (λ e. absurd (omega (arith, e, less, later)))) log.chain

  file : c (segment_name last) ≡ p (segment_name last)
  file = others last log.number (λ e. absurd (omega (arith, e, later)))

  at : text_at c last ≡ text_at p last
  at = ap whole_in file

  between : NoneBetween c (last + 1) (last + lines (text_at c last))
  between m num from to =
      let size : lines (text_at c last) ≡ lines (text_at p last) = ap lines at in
      others m num (λ e. absurd (omega (arith, e, to, is, size))) ∙ log.none m num (let e : last < m = omega (arith, from) in e)

  pub next_log : (bytes : List ℕ) → c (segment_name next) ≡ Some bytes → IsLog c state (closed ++ last ∷ []) next
  next_log bytes there =
      let to : last + lines (text_at c last) ≡ next = ap (λ (t : List ℕ). last + lines t) at ∙ sym is in record {
        named = λ name wrong. same name (λ e. (wrong.1 next number).0 e) ∙ log.named name wrong;
        newest = newest_same p c state (λ m num. same (state_name m) (λ e. segment_state next m (sym e))) log.newest;
        chain = subst (λ (k : ℕ). IsClosed c (state + 1) (closed ++ last ∷ []) k) to
            (closed_more c (state + 1) closed last chain.0 log.number (file ∙ exact ∙ ap (λ (t : List ℕ). Some t) (sym at)) (λ e. some (sym at ∙ e)) between);
        number = number;
        there = (bytes, there);
        none = λ m num after. others m num (λ e. absurd (omega (arith, e, after))) ∙ log.none m num (let e : last < m = omega (arith, after, later) in e);
      }

  pub next_text : text_of c (closed ++ last ∷ []) ≡ text_of p closed ++ text_at p last
  next_text = text_more_of c closed last ∙ ap (λ (t : List ℕ). t ++ text_at c last) chain.1 ∙ ap (λ (t : List ℕ). text_of p closed ++ t) at

  pub next_world : c world_name ≡ p world_name
  next_world = same world_name (λ e. segment_world next (sym e))

  next_none : c (segment_name next) ≡ None → SameLog c p
  next_none none = record {
    segments = λ m. elim (cases_Bool (bytes_eq (segment_name m) (segment_name next))) [
      | inl equal ↦
          let e : segment_name m ≡ segment_name next = (bytes_eq-Decides (segment_name m) (segment_name next)).0 equal in
          ap c e ∙ none ∙ sym (ap p e ∙ log.none next number later)
      | inr other ↦ same (segment_name m) (λ e. false≢true (sym other ∙ (bytes_eq-Decides (segment_name m) (segment_name next)).1 e))
    ];
    states = λ m. same (state_name m) (λ e. segment_state next m (sym e));
    wrong = λ name wrong. same name (λ e. (wrong.1 next number).0 e);
    world = next_world;
  }

  pub next_state : state_at c state ≡ state_at p state
  next_state = state_same p c state (λ m. same (state_name m) (λ e. segment_state next m (sym e)))

  next_by : (world kept : List ℕ) → kept ≡ state_at p state → p world_name ≡ Some world → (o : Option (List ℕ)) → c (segment_name next) ≡ o → whole_in (c (segment_name next)) ≡ [] → HasLog world (state, kept) (text_of p closed ++ text_at p last) c
  next_by world kept is_kept own None e empty = holds_same c p (next_none e) world (state, kept) (text_of p closed ++ text_at p last) (inl (own, (closed, last, log, refl, is_kept)))
  next_by world kept is_kept own (Some bytes) e empty =
      inl (
        next_world ∙ own,
        (
          closed ++ last ∷ [],
          next,
          next_log bytes e,
          sym (ap (λ (t : List ℕ). text_of c (closed ++ last ∷ []) ++ t) empty ∙ append-nil (text_of c (closed ++ last ∷ [])) ∙ next_text),
          is_kept ∙ sym next_state,
        ),
      )

  pub next_holds : (world kept : List ℕ) → kept ≡ state_at p state → p world_name ≡ Some world → whole_in (c (segment_name next)) ≡ [] → HasLog world (state, kept) (text_of p closed ++ text_at p last) c
  next_holds world kept is_kept own empty = next_by world kept is_kept own (c (segment_name next)) refl empty
