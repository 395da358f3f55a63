-- What a log is where the file of its last segment is another.
use Rattle.std.proofs.Common.{◌≡◌, ◌≢◌, ◌⊎◌, inl, inr, ⊎_elim, ℕ, zero, suc, ◌+◌, ◌<◌, ◌≤◌, true, false, cond, ◌==◌, List, [], ◌∷◌, ◌++◌, length, Option, Some, None, refl, sym, ◌∙◌, ap, subst, arith, append_assoc}
use Rattle.std.specs.Option.{unwrap_or}
use Rattle.std.proofs.lemmas.Bool.{cases_Bool, cond-true, cond-false, false≢true}
use Rattle.std.proofs.lemmas.List.{append-nil}
use Rattle.sv_log.specs.Pictures.{Picture}
use Rattle.sv_log.specs.Crashes.{Same, SameBut}
use Rattle.sv_log.specs.Texts.{has_line, whole, whole_in, IsText, IsFront}
use Rattle.sv_log.specs.Logs.{Within}
use Rattle.sv_log.specs.Names.{segment_name, state_name, world_name, IsNumber}
use Rattle.sv_log.specs.Chains.{StateFile, lines, text_at, text_of, state_at, NoneBetween, IsClosed, IsWholeState, IsNewest, IsLog, HasLog, KeepsLog}
use Rattle.sv_log.proofs.Texts.{text_parts, front-append}
use Rattle.sv_log.proofs.Mended.{whole_again}
use Rattle.sv_log.proofs.Numbers.{segment_injective, segment_state, segment_world}

-- a line that ends is counted
some_line : (x : List ℕ) → has_line x ≡ true → 0 < lines x
some_line [] h = absurd (false≢true h)
some_line (b ∷ x) h = elim (cases_Bool (b == 0)) [
  | inl lost ↦ absurd (false≢true (sym (cond-true (b == 0) false (cond (b == 10) true (has_line x)) lost) ∙ h))
  | inr some ↦ elim (cases_Bool (b == 10)) [
    | inl lf ↦ let one : ◌≡◌ {A = ℕ} (cond (b == 10) 1 0) 1 = cond-true (b == 10) 1 0 lf in omega (arith, one)
    | inr other ↦
        let later : has_line x ≡ true = sym (cond-false (b == 10) true (has_line x) other) ∙ sym (cond-false (b == 0) false (cond (b == 10) true (has_line x)) some) ∙ h in
        let below = some_line x later in
        omega (arith, below)
  ]
]

text_lines : (x : List ℕ) → IsText x → x ≢ [] → 0 < lines x
text_lines [] text some = absurd (some refl)
text_lines (b ∷ x) text some = some_line (b ∷ x) (text_parts b x text).0

pub text_in : (o : Option (List ℕ)) → IsText (whole_in o)
text_in None = refl
text_in (Some bytes) = whole_again bytes

pub lines_at : (p : Picture) (n : ℕ) → text_at p n ≢ [] → 0 < lines (text_at p n)
lines_at p n some = text_lines (text_at p n) (text_in (p (segment_name n))) some

pub lines-append : (x y : List ℕ) → lines (x ++ y) ≡ lines x + lines y
lines-append [] y = omega arith
lines-append (b ∷ x) y = let more = lines-append x y in omega (arith, more)

pub closed_low : (p : Picture) (n : ℕ) (ms : List ℕ) (last : ℕ) → IsClosed p n ms last → n ≤ last
closed_low p n [] last is = omega (arith, is)
closed_low p n (m ∷ ms) last h = let low = closed_low p (n + lines (text_at p n)) ms last h.5 in omega (arith, low)

-- one closed segment of this text, and then others
abbrev Closed : Picture → ℕ → List ℕ → ℕ → List ℕ → ℕ → Type 0
Closed c n t m ms last = (m ≡ n) × IsNumber n × (c (segment_name n) ≡ Some t) × (t ≢ []) × NoneBetween c (n + 1) (n + lines t) × IsClosed c (n + lines t) ms last

-- closed segments do not change with what stands behind them
pub closed_same : (p c : Picture) (n : ℕ) (ms : List ℕ) (last : ℕ) → ((k : ℕ) → IsNumber k → k < last → c (segment_name k) ≡ p (segment_name k)) → IsClosed p n ms last
    → IsClosed c n ms last × (text_of c ms ≡ text_of p ms)
closed_same p c n [] last same h = (h, refl)
closed_same p c n (m ∷ ms) last same h =
    let t = text_at p n in
    let low : n + lines t ≤ last = closed_low p (n + lines t) ms last h.5 in
    let some : 0 < lines t = lines_at p n h.3 in
    let below : n < last = omega (arith, low, some) in
    let file : c (segment_name n) ≡ p (segment_name n) = same n h.1 below in
    let text : text_at c n ≡ t = ap whole_in file in
    let rest = closed_same p c (n + lines t) ms last same h.5 in
    let at : text_at c m ≡ text_at p m = ap (text_at c) h.0 ∙ text ∙ ap (text_at p) (sym h.0) in (
      subst (λ (u : List ℕ). Closed c n u m ms last) (sym text) (
        h.0,
        h.1,
        file ∙ h.2,
        h.3,
        (λ k number from to. let less : k < last = omega (arith, to, low) in same k number less ∙ h.4 k number from to),
        rest.0,
      ),
      ap (λ (u : List ℕ). u ++ text_of c ms) at ∙ ap (λ (u : List ℕ). text_at p m ++ u) rest.1,
    )

pub newest_same : (p c : Picture) (state : ℕ) → ((m : ℕ) → IsNumber m → c (state_name m) ≡ p (state_name m)) → IsNewest p state → IsNewest c state
newest_same p c zero same h = λ m number. same m number ∙ h m number
newest_same p c (suc k) same h =
    (h.0, subst IsWholeState (sym (same (suc k) h.0)) h.1, λ m number later is. h.2 m number later (subst IsWholeState (same m number) is))

pub state_same : (p c : Picture) (state : ℕ) → ((m : ℕ) → c (state_name m) ≡ p (state_name m)) → state_at c state ≡ state_at p state
state_same p c zero same = refl
state_same p c (suc k) same = ap (λ (o : Option (List ℕ)). unwrap_or o []) (same (suc k))

module _ (p c : Picture) (state : ℕ) (closed : List ℕ) (last : ℕ) (log : IsLog p state closed last) (same : SameBut (segment_name last) c p) where
  other : (k : ℕ) → IsNumber k → k ≢ last → c (segment_name k) ≡ p (segment_name k)
  other k number ne = same (segment_name k) (λ e. ne (segment_injective k last number log.number e))

  moved : IsClosed c (state + 1) closed last × (text_of c closed ≡ text_of p closed)
  moved = closed_same p c (state + 1) closed last (λ k number less. other k number (λ e. absurd (omega (arith, less, e)))) log.chain

  pub text_moved : text_of c closed ≡ text_of p closed
  text_moved = moved.1

  pub state_moved : state_at c state ≡ state_at p state
  state_moved = state_same p c state (λ m. same (state_name m) (λ e. segment_state last m (sym e)))

  pub log_moved : (bytes : List ℕ) × (c (segment_name last) ≡ Some bytes) → IsLog c state closed last
  log_moved there = record {
    named = λ name wrong. same name (λ e. (wrong.1 last log.number).0 e) ∙ log.named name wrong;
    newest = newest_same p c state (λ m number. same (state_name m) (λ e. segment_state last m (sym e))) log.newest;
    chain = moved.0;
    number = log.number;
    there = there;
    none = λ m number later. other m number (λ e. absurd (omega (arith, later, e))) ∙ log.none m number later;
  }

  pub world_moved : c world_name ≡ p world_name
  world_moved = same world_name (λ e. segment_world last (sym e))

-- a segment with a text from low to high makes a log with one
pub within_keeps : (p c : Picture) (world : List ℕ) (state : StateFile) (closed : List ℕ) (last : ℕ) (low high : List ℕ) → IsLog p state.0 closed last → state.1 ≡ state_at p state.0 → p world_name ≡ Some world
    → Within p (segment_name last) low high c → KeepsLog world state (text_of p closed ++ low) (text_of p closed ++ high) c
within_keeps p c world state closed last low high log kept is w =
    let before = text_of p closed in
    let text = text_at c last in
    let same : text_of c closed ≡ before = text_moved p c state.0 closed last log w.0 in (
      before ++ text,
      inl (
        world_moved p c state.0 closed last log w.0 ∙ is,
        (closed, last, log_moved p c state.0 closed last log w.0 w.3, ap (λ (l : List ℕ). l ++ text) (sym same), kept ∙ sym (state_moved p c state.0 closed last log w.0)),
      ),
      front-append before low text w.1,
      front-append before text high w.2,
    )

-- the same where the name of the file is told
pub named_keeps : (p c : Picture) (name world : List ℕ) (state : StateFile) (closed : List ℕ) (last : ℕ) (low high : List ℕ) → name ≡ segment_name last → IsLog p state.0 closed last → state.1 ≡ state_at p state.0
    → p world_name ≡ Some world
    → Within p name low high c → KeepsLog world state (text_of p closed ++ low) (text_of p closed ++ high) c
named_keeps p c name world state closed last low high called log kept is w =
    within_keeps p c world state closed last low high log kept is (subst (λ (n : List ℕ). Within p n low high c) called w)
