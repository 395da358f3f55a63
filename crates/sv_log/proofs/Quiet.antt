-- Changes that leave a log as it is.
use Rattle.std.proofs.Common.{◌≡◌, ◌≢◌, ◌⊎◌, inl, inr, ⊎_elim, ℕ, zero, suc, ◌+◌, ◌<◌, ◌≤◌, List, [], ◌∷◌, ◌++◌, Option, Some, None, get_or, refl, sym, ◌∙◌, ap, subst, arith}
use Rattle.std.proofs.lemmas.List.{append-nil}
use Rattle.sv_log.specs.Pictures.{Picture, Disk, seen, put}
use Rattle.sv_log.specs.Crashes.{Same, SameBut, CrashLeaves, LeavesOnly}
use Rattle.sv_log.specs.Texts.{IsText, IsFront, whole_in}
use Rattle.sv_log.specs.Rests.{IsAtRest, Tells, Mends, IsPut}
use Rattle.sv_log.specs.Names.{segment_name, state_name, rest_name, world_name, new_name, segment_kind, state_kind, IsNumber, IsWrongName}
use Rattle.sv_log.specs.Chains.{StateFile, no_state, lines, text_at, text_of, state_at, NoneBetween, IsClosed, IsWholeState, IsNewest, IsLog, IsFresh, HasLines, HasLog, SameLog}
use Rattle.sv_log.proofs.Standing.{put_same, put_other, none_some}
use Rattle.sv_log.proofs.Moments.{weaker_only}
use Rattle.sv_log.proofs.Chained.{closed_same, newest_same, state_same, log_moved, text_moved, state_moved, world_moved}
use Rattle.sv_log.proofs.Numbers.{segment_injective, segment_state, segment_world, segment_new, state_world, state_new, world_new, segment_rest, state_rest, world_rest}

pub same_log_same : (p : Picture) → SameLog p p
same_log_same p = record { segments = λ m. refl; states = λ m. refl; wrong = λ n wrong. refl; world = refl }

pub same_log_then : (a b c : Picture) → SameLog b a → SameLog c b → SameLog c a
same_log_then a b c f g = record {
  segments = λ m. g.segments m ∙ f.segments m;
  states = λ m. g.states m ∙ f.states m;
  wrong = λ n wrong. g.wrong n wrong ∙ f.wrong n wrong;
  world = g.world ∙ f.world;
}

pub same_same_log : (c p : Picture) → Same c p → SameLog c p
same_same_log c p same = record { segments = λ m. same (segment_name m); states = λ m. same (state_name m); wrong = λ n wrong. same n; world = same world_name }

module _ (c p : Picture) (same : SameLog c p) where
  pub log_same : (state : ℕ) (closed : List ℕ) (last : ℕ) → IsLog p state closed last → IsLog c state closed last × (text_of c closed ≡ text_of p closed)
  log_same state closed last log =
      let chain = closed_same p c (state + 1) closed last (λ k number less. same.segments k) log.chain in (
        record {
          named = λ name wrong. same.wrong name wrong ∙ log.named name wrong;
          newest = newest_same p c state (λ m number. same.states m) log.newest;
          chain = chain.0;
          number = log.number;
          there = (log.there.0, same.segments last ∙ log.there.1);
          none = λ m number later. same.segments m ∙ log.none m number later;
        },
        chain.1,
      )

  pub fresh_same : (world : List ℕ) → IsFresh world p → IsFresh world c
  fresh_same world fresh = record {
    named = λ name wrong. same.wrong name wrong ∙ fresh.named name wrong;
    states = λ m number. same.states m ∙ fresh.states m number;
    segments = λ m number. same.segments m ∙ fresh.segments m number;
    own = subst (λ (o : Option (List ℕ)). (o ≡ None) ⊎ (o ≡ Some world)) (sym same.world) fresh.own;
  }

  pub holds_same : (world : List ℕ) (state : StateFile) (text : List ℕ) → HasLog world state text p → HasLog world state text c
  holds_same world state text holds = elim holds [
    | inl h ↦
        let l = log_same state.0 h.1.0 h.1.1 h.1.2 in
        inl (
          same.world ∙ h.0,
          (
            h.1.0,
            h.1.1,
            l.0,
            h.1.3 ∙ ap (λ (t : List ℕ). t ++ text_at p h.1.1) (sym l.1) ∙ ap (λ (o : Option (List ℕ)). text_of c h.1.0 ++ whole_in o) (sym (same.segments h.1.1)),
            h.1.4 ∙ sym (state_same p c state.0 same.states),
          ),
        )
    | inr f ↦ inr (fresh_same world f.0, f.1, f.2)
  ]

wrong_first : (name : List ℕ) → IsWrongName name → (get_or name 0 0 ≡ 106) ⊎ (get_or name 0 0 ≡ 115)
wrong_first name wrong = elim wrong.0 [
  | inl f ↦ inl (ap (λ (l : List ℕ). get_or l 0 0) f.1)
  | inr f ↦ inr (ap (λ (l : List ℕ). get_or l 0 0) f.1)
]

-- a name that begins otherwise is not wrong
pub wrong_differs : (name other : List ℕ) → IsWrongName name → get_or other 0 0 ≢ 106 → get_or other 0 0 ≢ 115 → name ≢ other
wrong_differs name other wrong j s is = ⊎_elim (λ first. j (ap (λ (l : List ℕ). get_or l 0 0) (sym is) ∙ first)) (λ first. s (ap (λ (l : List ℕ). get_or l 0 0) (sym is) ∙ first)) (wrong_first name wrong)

pub wrong_new : (name : List ℕ) → IsWrongName name → name ≢ new_name
wrong_new name wrong = wrong_differs name new_name wrong (λ e. absurd (omega (arith, e))) (λ e. absurd (omega (arith, e)))

wrong_world : (name : List ℕ) → IsWrongName name → name ≢ world_name
wrong_world name wrong = wrong_differs name world_name wrong (λ e. absurd (omega (arith, e))) (λ e. absurd (omega (arith, e)))

wrong_rest : (name : List ℕ) (n : ℕ) → IsWrongName name → name ≢ rest_name n
wrong_rest name n wrong = wrong_differs name (rest_name n) wrong (λ e. absurd (omega (arith, e))) (λ e. absurd (omega (arith, e)))

-- what stands under the new name is no part of a log
pub but_new : (c p : Picture) → SameBut new_name c p → SameLog c p
but_new c p same = record {
  segments = λ m. same (segment_name m) (segment_new m);
  states = λ m. same (state_name m) (state_new m);
  wrong = λ name wrong. same name (wrong_new name wrong);
  world = same world_name world_new;
}

-- nor is what stood behind a text
pub put_rest_same : (p : Picture) (n : ℕ) (file : Option (List ℕ)) → SameLog (put (rest_name n) file p) p
put_rest_same p n file = record {
  segments = λ m. put_other (rest_name n) (segment_name m) file p (segment_rest m n);
  states = λ m. put_other (rest_name n) (state_name m) file p (state_rest m n);
  wrong = λ name wrong. put_other (rest_name n) name file p (wrong_rest name n wrong);
  world = put_other (rest_name n) world_name file p (world_rest n);
}

pub rest_put_same : (p c : Picture) (n : ℕ) (bytes : List ℕ) → IsPut new_name (rest_name n) bytes p c → SameLog c p
rest_put_same p c n bytes is =
    ⊎_elim (λ (same : SameBut new_name c p). but_new c p same)
    (λ (same : SameBut new_name c (put (rest_name n) (Some bytes) p)).
    same_log_then p (put (rest_name n) (Some bytes) p) c (put_rest_same p n (Some bytes)) (but_new c (put (rest_name n) (Some bytes) p) same)) is

-- ---- A world is put into a folder that has no log

world_put_fresh : (p c : Picture) (world : List ℕ) → IsFresh world p → SameBut new_name c (put world_name (Some world) p) → IsFresh world c × (c world_name ≡ Some world)
world_put_fresh p c world fresh same =
    let is : c world_name ≡ Some world = same world_name world_new ∙ put_same world_name (Some world) p in (
      record {
        named = λ name wrong. same name (wrong_new name wrong) ∙ put_other world_name name (Some world) p (wrong_world name wrong) ∙ fresh.named name wrong;
        states = λ m number. same (state_name m) (state_new m) ∙ put_other world_name (state_name m) (Some world) p (state_world m) ∙ fresh.states m number;
        segments = λ m number. same (segment_name m) (segment_new m) ∙ put_other world_name (segment_name m) (Some world) p (segment_world m) ∙ fresh.segments m number;
        own = inr is;
      },
      is,
    )

pub world_put : (p c : Picture) (world : List ℕ) → IsFresh world p → SameBut new_name c (put world_name (Some world) p) → IsFresh world c × (c world_name ≡ Some world)
world_put = world_put_fresh

pub world_puts : (p c : Picture) (world : List ℕ) → IsFresh world p → IsPut new_name world_name world p c → HasLog world no_state [] c
world_puts p c world fresh is =
    ⊎_elim (λ (same : SameBut new_name c p). inr (fresh_same c p (but_new c p same) world fresh, refl, refl))
    (λ (same : SameBut new_name c (put world_name (Some world) p)). inr ((world_put_fresh p c world fresh same).0, refl, refl)) is

-- ---- The first segment of a log

eq_or : (m : ℕ) → (m ≡ 1) ⊎ (m ≢ 1)
eq_or zero = inr (λ e. absurd (omega (arith, e)))
eq_or (suc zero) = inl refl
eq_or (suc (suc m)) = inr (λ e. absurd (omega (arith, e)))

first_number : IsNumber 1
first_number = (omega arith, omega arith)

module _ (p c : Picture) (world : List ℕ) (fresh : IsFresh world p) (is : p world_name ≡ Some world) (same : SameBut (segment_name 1) c p) where
  others : (m : ℕ) → IsNumber m → m ≢ 1 → c (segment_name m) ≡ None
  others m number ne = same (segment_name m) (λ e. ne (segment_injective m 1 number first_number e)) ∙ fresh.segments m number

  named : (name : List ℕ) → IsWrongName name → c name ≡ None
  named name wrong = same name (λ e. (wrong.1 1 first_number).0 e) ∙ fresh.named name wrong

  states : (m : ℕ) → IsNumber m → c (state_name m) ≡ None
  states m number = same (state_name m) (λ e. segment_state 1 m (sym e)) ∙ fresh.states m number

  pub first_world : c world_name ≡ Some world
  first_world = same world_name (λ e. segment_world 1 (sym e)) ∙ is

  pub first_log : (bytes : List ℕ) → c (segment_name 1) ≡ Some bytes → IsLog c 0 [] 1
  first_log bytes there = record {
    named = named;
    newest = states;
    chain = refl;
    number = first_number;
    there = (bytes, there);
    none = λ m number later. others m number (λ e. absurd (omega (arith, e, later)));
  }

  first_none : c (segment_name 1) ≡ None → IsFresh world c
  first_none none = record {
    named = named;
    states = states;
    segments = λ m number. elim (eq_or m) [
      | inl e ↦ subst (λ (k : ℕ). c (segment_name k) ≡ None) (sym e) none
      | inr ne ↦ others m number ne
    ];
    own = inr first_world;
  }

  first_by : (o : Option (List ℕ)) → c (segment_name 1) ≡ o → whole_in (c (segment_name 1)) ≡ [] → HasLog world no_state [] c
  first_by None e empty = inr (first_none e, refl, refl)
  first_by (Some bytes) e empty = inl (first_world, ([], 1, first_log bytes e, sym empty, refl))

  pub first_holds : whole_in (c (segment_name 1)) ≡ [] → HasLog world no_state [] c
  first_holds empty = first_by (c (segment_name 1)) refl empty

pub first_tells : (p c : Picture) (world : List ℕ) → IsFresh world p → p world_name ≡ Some world → Tells p (segment_name 1) [] c → HasLog world no_state [] c
first_tells p c world fresh is w = first_holds p c world fresh is w.0 w.1

-- ---- The last segment is mended

mended_by : (p c : Picture) (name : List ℕ) → ((bytes : List ℕ) × (p name ≡ Some bytes)) → (c name ≡ None → p name ≡ None) → (o : Option (List ℕ)) → c name ≡ o → (bytes : List ℕ) × (c name ≡ Some bytes)
mended_by p c name there none None e = absurd (none_some (p name) there.0 there.1 (none e))
mended_by p c name there none (Some bytes) e = (bytes, e)

mended_there : (p c : Picture) (name text : List ℕ) → ((bytes : List ℕ) × (p name ≡ Some bytes)) → Mends p name text c → (bytes : List ℕ) × (c name ≡ Some bytes)
mended_there p c name text there w = mended_by p c name there w.2 (c name) refl

pub mend_holds : (p c : Picture) (world : List ℕ) (state : StateFile) (closed : List ℕ) (last : ℕ) → IsLog p state.0 closed last → state.1 ≡ state_at p state.0 → p world_name ≡ Some world
    → Mends p (segment_name last) (text_at p last) c → HasLog world state (text_of p closed ++ text_at p last) c
mend_holds p c world state closed last log kept is w =
    inl (
      world_moved p c state.0 closed last log w.0 ∙ is,
      (
        closed,
        last,
        log_moved p c state.0 closed last log w.0 (mended_there p c (segment_name last) (text_at p last) log.there w),
        ap (λ (t : List ℕ). t ++ text_at p last) (sym (text_moved p c state.0 closed last log w.0)) ∙ ap (λ (t : List ℕ). text_of c closed ++ t) (sym w.1),
        kept ∙ sym (state_moved p c state.0 closed last log w.0),
      ),
    )
