-- What is refused is no log.
use Rattle.std.proofs.Common.{◌≡◌, ◌≢◌, ◌⊎◌, inl, inr, ⊎_elim, ℕ, zero, suc, ◌+◌, ◌-◌, ◌<◌, ◌≤◌, min, Bool, true, false, List, [], ◌∷◌, ◌++◌, length, length-take, take, Option, Some, None, Result, Ok, Err, IfErr, IsErrAnd, Contains, IsSome, refl, sym, ◌∙◌, ap, subst, arith}
use Rattle.std.specs.Option.{unwrap_or}
use Rattle.std.proofs.lemmas.Bool.{cases_lt}
use Rattle.sv_log.specs.Pictures.{Picture}
use Rattle.sv_log.specs.Texts.{IsFront, whole, whole_in}
use Rattle.sv_log.specs.Reads.{Lists}
use Rattle.sv_log.specs.Names.{IsNumber, IsWrongName, segment_name, state_name, world_name}
use Rattle.sv_log.specs.declared.names.FileKind.TheVariants as file
use Rattle.sv_log.specs.Chains.{StateFile, lines, text_at, text_of, NoneBetween, IsClosed, IsWholeState, IsNewest, IsWellNamed, IsLog, IsFresh, HasLines, HasLog, KeepsLog}
use Rattle.sv_log.specs.Readings.{read_state, HasWorld, HasSome, Reads, IsFirstNumber, IsNewestSoFar}
use Rattle.sv_log.specs.Walks.{IsOnTheWay, LeadsTo}
use Rattle.sv_log.specs.Refusals.{HasNoLog, HasNoChain, IsLast}
use Rattle.sv_log.specs.declared.reading.Reading.{Reading}
use Rattle.sv_log.specs.declared.reading.LogRefusal.{LogRefusal}
use Rattle.sv_log.specs.declared.walking.SegmentWalk.{SegmentWalk}
use Rattle.sv_log.proofs.Standing.{none_some}
use Rattle.sv_log.proofs.Chained.{closed_low, lines_at}
use Rattle.sv_log.proofs.Opened.{reads_holds}
use Rattle.sv_log.proofs.Walked.{none_after, unlisted}
use Rattle.sv_log.proofs.Alone.{newest_alone, last_of, holds_alone}

some_no_none : (o : Option (List ℕ)) → IsSome o → o ≡ None → ⊥
some_no_none o is none = let some : IsSome {T = List ℕ} None = subst (λ (x : Option (List ℕ)). IsSome x) none is in absurd (cc some)

same_inside : (x y : List ℕ) → Some x ≡ Some y → x ≡ y
same_inside x y e = ap (λ (o : Option (List ℕ)). unwrap_or o []) e

whole_some : (o : Option (List ℕ)) → IsWholeState o → o ≡ None → ⊥
whole_some o w none = subst IsWholeState none w

-- a refusal that is handed on
pub err_by : {A : Type 0} (P : LogRefusal → Type 0) (r : Result A LogRefusal) (e : LogRefusal) → IsErrAnd r (λ x. x ≡ e) → P e → IfErr r P
err_by P (Ok a) e is h = tt
err_by P (Err x) e is h = subst P (sym is) h

pub if_err : {A E : Type 0} (r : Result A E) (P Q : E → Type 0) → IfErr r P → ((x : E) → P x → Q x) → IfErr r Q
if_err (Ok x) P Q h step = tt
if_err (Err e) P Q h step = step e h

-- ---- What a log has

holds_named : (world : List ℕ) (state : StateFile) (text : List ℕ) (p : Picture) → HasLog world state text p → IsWellNamed p
holds_named world state text p holds = elim holds [
  | inl h ↦ h.1.2.named
  | inr f ↦ f.0.named
]

holds_world : (world : List ℕ) (state : StateFile) (text : List ℕ) (p : Picture) → HasLog world state text p → (p world_name ≡ None) ⊎ (p world_name ≡ Some world)
holds_world world state text p holds = elim holds [
  | inl h ↦ inr h.0
  | inr f ↦ f.0.own
]

pub other_world : (world : List ℕ) (p : Picture) (bytes : List ℕ) → p world_name ≡ Some bytes → bytes ≢ world → HasNoLog world p
other_world world p bytes is other state text holds =
    ⊎_elim (λ (none : p world_name ≡ None). none_some (p world_name) bytes is none)
    (λ (own : p world_name ≡ Some world). other (same_inside bytes world (sym is ∙ own))) (holds_world world state text p holds)

module _ (p : Picture) (names : List (List ℕ)) (lists : Lists p names) where
  there_not : (name : List ℕ) → Contains names name → p name ≡ None → ⊥
  there_not name has none = some_no_none (p name) ((lists name).0 has) none

  pub wrong_name : (name : List ℕ) → IsWrongName name → Contains names name → (world : List ℕ) → HasNoLog world p
  wrong_name name wrong has world state text holds = there_not name has (holds_named world state text p holds name wrong)

  -- ---- States

  no_newest : (seen s : ℕ) → IsNewestSoFar p 0 seen → 0 < seen → IsFirstNumber file.State names (seen + 1) None → IsNewest p s → ⊥
  no_newest seen zero so_far some first newest =
      ⊎_elim (λ (none : seen ≡ 0). absurd (omega (arith, none, some)))
      (λ (is : IsNumber seen × IsSome (p (state_name seen))). some_no_none (p (state_name seen)) is.1 (newest seen is.0)) so_far.3
  no_newest seen (suc k) so_far some first newest =
      none_after p names lists 0 seen so_far first (suc k) newest.0 (let e : 0 < suc k = omega arith in e) newest.1

  pub no_whole_state : (seen : ℕ) → IsNewestSoFar p 0 seen → 0 < seen → IsFirstNumber file.State names (seen + 1) None → (world : List ℕ) → HasNoLog world p
  no_whole_state seen so_far some first world state text holds = elim holds [
    | inl h ↦ no_newest seen state.0 so_far some first h.1.2.newest
    | inr f ↦
        ⊎_elim (λ (none : seen ≡ 0). absurd (omega (arith, none, some)))
        (λ (is : IsNumber seen × IsSome (p (state_name seen))). some_no_none (p (state_name seen)) is.1 (f.0.states seen is.0)) so_far.3
  ]

  -- ---- A log without its world

  state_not_fresh : (world : List ℕ) (s : ℕ) → IsNewest p s → s ≢ 0 → IsFresh world p → ⊥
  state_not_fresh world zero newest some fresh = some refl
  state_not_fresh world (suc k) newest some fresh = whole_some (p (state_name (suc k))) newest.1 (fresh.states (suc k) newest.0)

  not_fresh : (world : List ℕ) (s : ℕ) → IsNewest p s → HasSome names s → IsFresh world p → ⊥
  not_fresh world s newest some fresh =
      ⊎_elim (λ (state : s ≢ 0). state_not_fresh world s newest state fresh)
      (λ (segment : (n : ℕ) × IsFirstNumber file.Segment names 1 (Some n)). there_not (segment_name segment.0) segment.1.2 (fresh.segments segment.0 segment.1.0)) some

  pub world_missing : (world : List ℕ) (s : ℕ) → IsNewest p s → HasSome names s → p world_name ≡ None → HasNoLog world p
  world_missing world s newest some none state text holds = elim holds [
    | inl h ↦ none_some (p world_name) world h.0 none
    | inr f ↦ not_fresh world s newest some f.0
  ]

  pub no_chain_no_log : (world : List ℕ) (s : ℕ) → IsNewest p s → HasSome names s → HasNoChain p (s + 1) → HasNoLog world p
  no_chain_no_log world s newest some no_chain state text holds = elim holds [
    | inl h ↦
        let same : state.0 ≡ s = newest_alone p state.0 s h.1.2.newest newest in
        no_chain h.1.0 h.1.1 (subst (λ (k : ℕ). IsClosed p (k + 1) h.1.0 h.1.1) same h.1.2.chain) (last_of p state.0 h.1.0 h.1.1 h.1.2)
    | inr f ↦ not_fresh world s newest some f.0
  ]

  -- ---- Segments

  pub no_first : (first : ℕ) → (IsNumber first → Contains names (segment_name first) → ⊥) → HasNoChain p first
  no_first first none [] last chain is_last =
      let at : last ≡ first = sym chain in
      let number : IsNumber first = subst IsNumber at is_last.0 in
      none_some (p (segment_name last)) is_last.1.0 is_last.1.1 (ap (λ (k : ℕ). p (segment_name k)) at ∙ unlisted p names lists (segment_name first) (none number))
  no_first first none (m ∷ ms) last chain is_last =
      none_some (p (segment_name first)) (text_at p first) chain.2 (unlisted p names lists (segment_name first) (none chain.1))

-- a chain goes on from where it was followed to
chain_front : (p : Picture) (n : ℕ) (ms : List ℕ) (l : ℕ) (ks : List ℕ) (j : ℕ) → IsLast p j → IsNumber l → IsSome (p (segment_name l)) → IsClosed p n ms l → IsClosed p n ks j
    → (rest : List ℕ) × IsClosed p l rest j
chain_front p n [] l ks j f number there c d = (ks, subst (λ (k : ℕ). IsClosed p k ks j) c d)
chain_front p n (m ∷ ms) l [] j f number there c d =
    let low = closed_low p (n + lines (text_at p n)) ms l c.5 in
    let some = lines_at p n c.3 in
    absurd (some_no_none (p (segment_name l)) there (f.2 l number (omega (arith, d, low, some))))
chain_front p n (m ∷ ms) l (k ∷ ks) j f number there c d = chain_front p (n + lines (text_at p n)) ms l ks j f number there c.5 d.5

-- where a chain begins there is a segment
chain_there : (p : Picture) (n : ℕ) (ms : List ℕ) (l : ℕ) → IsLast p l → IsClosed p n ms l → IsNumber n × ((bytes : List ℕ) × (p (segment_name n) ≡ Some bytes))
chain_there p n [] l f c = subst (λ (k : ℕ). IsNumber k × ((bytes : List ℕ) × (p (segment_name k) ≡ Some bytes))) (sym c) (f.0, f.1)
chain_there p n (m ∷ ms) l f c = (c.1, (text_at p n, c.2))

module _ (p : Picture) (names : List (List ℕ)) (lists : Lists p names) (n : ℕ) (bytes : List ℕ) (stored : p (segment_name n) ≡ Some bytes)
    (following : ℕ) (next : IsFirstNumber file.Segment names (n + 1) (Some following)) where
  following_there : p (segment_name following) ≡ None → ⊥
  following_there none = some_no_none (p (segment_name following)) ((lists (segment_name following)).0 next.2) none

  next_is : (e : ℕ) → NoneBetween p (n + 1) e → n < e → IsNumber e → ((b : List ℕ) × (p (segment_name e) ≡ Some b)) → following ≡ e
  next_is e none more number there =
      ⊎_elim (λ (early : following < e). absurd (following_there (none following next.0 next.1 early)))
      (λ (le : e ≤ following). ⊎_elim
      (λ (late : e < following). absurd (next.3 e number (let k : n + 1 ≤ e = omega (arith, more) in k) late ((lists (segment_name e)).1 (subst (λ (o : Option (List ℕ)). IsSome o) (sym there.1) refl))))
      (λ (ge : following ≤ e). let k : following ≡ e = omega (arith, le, ge) in k) (cases_lt e following)) (cases_lt following e)

  leads_by : (rest : List ℕ) (last : ℕ) → IsLast p last → IsClosed p n rest last → LeadsTo n bytes following
  leads_by [] last is_last chain =
      let later : last < following = (let le : n + 1 ≤ following = next.1 in omega (arith, le, chain)) in
      absurd (following_there (is_last.2 following next.0 later))
  leads_by (m ∷ ms) last is_last chain =
      let t = text_at p n in
      let same : bytes ≡ t = same_inside bytes t (sym stored ∙ chain.2) in
      let at : t ≡ whole bytes = ap whole_in stored in
      let more : 0 < lines t = lines_at p n chain.3 in
      let begins = chain_there p (n + lines t) ms last is_last chain.5 in (
        sym at ∙ sym same,
        (λ e. chain.3 (sym same ∙ e)),
        next_is (n + lines t) chain.4 (omega (arith, more)) begins.0 begins.1 ∙ ap (λ (x : List ℕ). n + lines x) (sym same),
      )

  pub chain_leads : (first : ℕ) (w : SegmentWalk) → IsOnTheWay p first w → w.number ≡ n → (LeadsTo n bytes following → ⊥) → HasNoChain p first
  chain_leads first w way is misled closed last chain is_last =
      let rest = chain_front p first w.closed.items w.number closed last is_last way.number way.there way.chain chain in
      misled (leads_by rest.0 last is_last (subst (λ (k : ℕ). IsClosed p k rest.0 last) is rest.1))

-- ---- A log that was kept is read

pub reads_kept : (world : List ℕ) (p : Picture) (r : Reading) (state : StateFile) (low high : List ℕ) → Reads world p r → KeepsLog world state low high p
    → (read_state r ≡ state) × IsFront low r.text.items × IsFront r.text.items high
reads_kept world p r state low high reads keeps =
    let same = holds_alone world p state (read_state r) keeps.0 r.text.items keeps.1 (reads_holds world p r reads) in (
      sym same.0,
      subst (λ (t : List ℕ). IsFront low t) same.1 keeps.2,
      subst (λ (t : List ℕ). IsFront t high) same.1 keeps.3,
    )

pub no_log_keeps : (world : List ℕ) (p : Picture) → HasNoLog world p → (state : StateFile) (low high : List ℕ) → KeepsLog world state low high p → ⊥
no_log_keeps world p none state low high keeps = none state keeps.0 keeps.1

-- ---- What is wrong with a segment

pub not_whole : (bytes : List ℕ) (n : ℕ) → take n bytes ≡ whole bytes → n < length bytes → whole bytes ≡ bytes → ⊥
not_whole bytes n text short all =
    let size : length (take n bytes) ≡ length bytes = ap length (text ∙ all) in
    let long = length-take n bytes in
    absurd (omega (arith, size, long, short))
