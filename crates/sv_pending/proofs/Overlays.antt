-- What pending actions say, one after another.
use Rattle.std.proofs.Common.{◌≡◌, ℕ, zero, suc, ◌+◌, ◌-◌, ◌<◌, List, [], ◌∷◌, ◌++◌, length, slice_get, get_or, drop, take, ◌⊎◌, inl, inr, Option, Some, None, option_map, refl, sym, ap, ◌∙◌, arith}
use Rattle.std.specs.Prelude.{ℤ}
use Rattle.sv_versions.specs.Held.{Held}
use Rattle.sv_pending.specs.Pending.{PendingAction, Overlaid, Unwritten, Unknown, KeptValues, kept_of, last_of, overlay_of, redone_after}
use Rattle.sv_pending.specs.declared.made.Made.{Made}
use Rattle.sv_pending.specs.Made.{paired, overlay_by, IsWholeResult, AreWhole}

abbrev Result : Type 0
Result = Option (List (List ℤ))

abbrev pub entry : Made → Option (List (List ℤ)) → PendingAction
entry m k = record { seq = m.seq; action = m.action; kept = k }

-- one more result
pub paired_more : (ms : List Made) (ks : List (Option (List (List ℤ)))) (k : Option (List (List ℤ))) (d : Made) → length ks < length ms → paired ms (ks ++ k ∷ []) ≡ paired ms ks ++ entry (get_or ms (length ks) d) k ∷ []
paired_more [] ks k d h = absurd (omega arith)
paired_more (m ∷ []) [] k d h = refl
paired_more (m ∷ (n ∷ ms)) [] k d h = refl
paired_more (m ∷ ms) (j ∷ ks) k d h = ap (λ ps. entry m j ∷ ps) (paired_more ms ks k d (omega arith))

pub whole_more : (ms : List Made) (ks : List (Option (List (List ℤ)))) (k : Option (List (List ℤ))) (d : Made) → length ks < length ms → AreWhole ms ks → IsWholeResult (get_or ms (length ks) d).action k → AreWhole ms (ks ++ k ∷ [])
whole_more [] ks k d h a w = absurd (omega arith)
whole_more (m ∷ []) [] k d h a w = (w, tt)
whole_more (m ∷ (n ∷ ms)) [] k d h a w = (w, tt)
whole_more (m ∷ ms) (j ∷ ks) k d h a w = (a.0, whole_more ms ks k d (omega arith) a.1 w)

pub paired_none : (ms : List Made) → paired ms [] ≡ []
paired_none [] = refl
paired_none (m ∷ ms) = refl

pub whole_none : (ms : List Made) → AreWhole ms []
whole_none [] = tt
whole_none (m ∷ ms) = tt

-- one more action
pub paired_push : (ms : List Made) (ks : List (Option (List (List ℤ)))) (m : Made) (k : Option (List (List ℤ))) → length ks ≡ length ms → paired (ms ++ m ∷ []) (ks ++ k ∷ []) ≡ paired ms ks ++ entry m k ∷ []
paired_push [] [] m k e = refl
paired_push [] (j ∷ ks) m k e = absurd (omega arith)
paired_push (n ∷ ms) [] m k e = absurd (omega arith)
paired_push (n ∷ ms) (j ∷ ks) m k e = ap (λ ps. entry n j ∷ ps) (paired_push ms ks m k (omega arith))

pub whole_push : (ms : List Made) (ks : List (Option (List (List ℤ)))) (m : Made) (k : Option (List (List ℤ))) → length ks ≡ length ms → AreWhole ms ks → IsWholeResult m.action k → AreWhole (ms ++ m ∷ []) (ks ++ k ∷ [])
whole_push [] [] m k e a w = (w, tt)
whole_push [] (j ∷ ks) m k e a w = absurd (omega arith)
whole_push (n ∷ ms) [] m k e a w = absurd (omega arith)
whole_push (n ∷ ms) (j ∷ ks) m k e a w = (a.0, whole_push ms ks m k (omega arith) a.1 w)

pub length-paired : (ms : List Made) (ks : List (Option (List (List ℤ)))) → length ks ≡ length ms → length (paired ms ks) ≡ length ms
length-paired [] ks e = refl
length-paired (m ∷ ms) [] e = absurd (omega arith)
length-paired (m ∷ ms) (k ∷ ks) e = ap suc (length-paired ms ks (omega arith))

-- the last action with its result
pub last_paired : (ms : List Made) (ks : List (Option (List (List ℤ)))) (m : Made) (k : Option (List (List ℤ))) → length ks ≡ length ms
    → slice_get ms (length ms - 1) ≡ Some m → slice_get ks (length ks - 1) ≡ Some k → slice_get (paired ms ks) (length (paired ms ks) - 1) ≡ Some (entry m k)
last_paired [] ks m k e f g = cc
last_paired (n ∷ ms) [] m k e f g = cc
last_paired (n ∷ []) (j ∷ []) m k e f g = let same : n ≡ m = cc in let kept : j ≡ k = cc in ap (λ (x : Made). Some (entry x j)) same ∙ ap (λ (x : Option (List (List ℤ))). Some (entry m x)) kept
last_paired (n ∷ []) (j ∷ l ∷ ks) m k e f g = absurd (omega arith)
last_paired (n ∷ o ∷ ms) (j ∷ []) m k e f g = absurd (omega arith)
last_paired (n ∷ o ∷ ms) (j ∷ l ∷ ks) m k e f g =
    let a : length (n ∷ o ∷ ms) - 1 ≡ suc (length (o ∷ ms) - 1) = omega arith in
    let b : length (j ∷ l ∷ ks) - 1 ≡ suc (length (l ∷ ks) - 1) = omega arith in
    let c : length (entry n j ∷ entry o l ∷ paired ms ks) - 1 ≡ suc (length (entry o l ∷ paired ms ks) - 1) = omega arith in
    ap (slice_get (paired (n ∷ o ∷ ms) (j ∷ l ∷ ks))) c
    ∙ last_paired (o ∷ ms) (l ∷ ks) m k (omega arith) (ap (slice_get (n ∷ o ∷ ms)) (sym a) ∙ f) (ap (slice_get (j ∷ l ∷ ks)) (sym b) ∙ g)

-- the rest of the list to redo, with the next of it
pub drop_paired : (ms : List Made) (ks : List (Option (List (List ℤ)))) (i : ℕ) (d : Made) (e : Option (List (List ℤ))) → length ks ≡ length ms → i < length ms → drop i (paired ms ks) ≡ entry (get_or ms i d) (get_or ks i e) ∷ drop (i + 1) (paired ms ks)
drop_paired [] ks i d e l h = absurd (omega arith)
drop_paired (m ∷ ms) [] i d e l h = absurd (omega arith)
drop_paired (m ∷ ms) (k ∷ ks) zero d e l h = refl
drop_paired (m ∷ ms) (k ∷ ks) (suc i) d e l h =
    let next : suc i + 1 ≡ suc (i + 1) = omega arith in
    rw next (drop_paired ms ks i d e (omega arith) (omega arith))

pub redo_more : (held : List Held) (ms : List Made) (ks done : List (Option (List (List ℤ)))) (k : Option (List (List ℤ))) (d : Made) → length ks ≡ length ms → length done < length ms → k ≡ kept_of held (paired ms done) (get_or ms (length done) d).action → redone_after held (paired ms done) (drop (length done) (paired ms ks)) ≡ redone_after held (paired ms (done ++ k ∷ [])) (drop (length done + 1) (paired ms ks))
redo_more held ms ks done k d l h e =
    ap (λ ps. redone_after held (paired ms done) ps) (drop_paired ms ks (length done) d None l h)
    ∙ ap (λ (j : Option (List (List ℤ))). redone_after held (paired ms done ++ entry (get_or ms (length done) d) j ∷ []) (drop (length done + 1) (paired ms ks))) (sym e)
    ∙ ap (λ ps. redone_after held ps (drop (length done + 1) (paired ms ks))) (sym (paired_more ms done k d h))

-- views, one after another
abbrev pub with_views : List (List ℤ) → Option (List (List ℤ)) → Option (List (List ℤ))
with_views vs rest = option_map (λ ws. vs ++ ws) rest

-- ---- The last of the first ones

last_alone : (o : Overlaid) → last_of Unwritten o ≡ o
last_alone Unwritten = refl
last_alone Unknown = refl
last_alone (KeptValues v) = refl

last_again : (a b c : Overlaid) → last_of a (last_of b c) ≡ last_of (last_of a b) c
last_again a b Unwritten = refl
last_again a b Unknown = refl
last_again a b (KeptValues v) = refl

-- one more of the first actions
pub overlay_more : (ms : List Made) (ks : List (Option (List (List ℤ)))) (n x : ℕ) (d : Made) (e : Option (List (List ℤ))) → n < length ms → n < length ks →
    overlay_of (take (suc n) (paired ms ks)) x ≡ last_of (overlay_of (take n (paired ms ks)) x) (overlay_by (entry (get_or ms n d) (get_or ks n e)) x)
overlay_more [] ks n x d e h g = absurd (omega arith)
overlay_more (m ∷ ms) [] n x d e h g = absurd (omega arith)
overlay_more (m ∷ ms) (k ∷ ks) zero x d e h g = sym (last_alone (overlay_by (entry m k) x))
overlay_more (m ∷ ms) (k ∷ ks) (suc n) x d e h g = let less : n < length ms = omega arith in
    let few : n < length ks = omega arith in
    ap (λ o. last_of (overlay_by (entry m k) x) o) (overlay_more ms ks n x d e less few)
    ∙ last_again (overlay_by (entry m k) x) (overlay_of (take n (paired ms ks)) x) (overlay_by (entry (get_or ms n d) (get_or ks n e)) x)

-- what one of the first actions says where it writes nothing of the object, and where it does
pub overlay_passed : (ms : List Made) (ks : List (Option (List (List ℤ)))) (n x : ℕ) (d : Made) (e : Option (List (List ℤ))) → n < length ms → n < length ks →
    overlay_by (entry (get_or ms n d) (get_or ks n e)) x ≡ Unwritten → overlay_of (take (suc n) (paired ms ks)) x ≡ overlay_of (take n (paired ms ks)) x
overlay_passed ms ks n x d e h g u = overlay_more ms ks n x d e h g ∙ ap (λ o. last_of (overlay_of (take n (paired ms ks)) x) o) u

pub overlay_unknown : (ms : List Made) (ks : List (Option (List (List ℤ)))) (n x : ℕ) (d : Made) (e : Option (List (List ℤ))) → n < length ms → n < length ks →
    overlay_by (entry (get_or ms n d) (get_or ks n e)) x ≡ Unknown → overlay_of (take (suc n) (paired ms ks)) x ≡ Unknown
overlay_unknown ms ks n x d e h g u = overlay_more ms ks n x d e h g ∙ ap (λ o. last_of (overlay_of (take n (paired ms ks)) x) o) u

pub overlay_kept : (ms : List Made) (ks : List (Option (List (List ℤ)))) (n x : ℕ) (d : Made) (e : Option (List (List ℤ))) (v : List ℤ) → n < length ms → n < length ks →
    overlay_by (entry (get_or ms n d) (get_or ks n e)) x ≡ KeptValues v → overlay_of (take (suc n) (paired ms ks)) x ≡ KeptValues v
overlay_kept ms ks n x d e v h g u = overlay_more ms ks n x d e h g ∙ ap (λ o. last_of (overlay_of (take n (paired ms ks)) x) o) u

pub whole_at : (ms : List Made) (ks : List (Option (List (List ℤ)))) (n : ℕ) (d : Made) (e : Option (List (List ℤ))) → n < length ms → n < length ks → AreWhole ms ks →
    IsWholeResult (get_or ms n d).action (get_or ks n e)
whole_at [] ks n d e h g a = absurd (omega arith)
whole_at (m ∷ ms) [] n d e h g a = absurd (omega arith)
whole_at (m ∷ ms) (k ∷ ks) zero d e h g a = a.0
whole_at (m ∷ ms) (k ∷ ks) (suc n) d e h g a = let less : n < length ms = omega arith in
    let few : n < length ks = omega arith in
    whole_at ms ks n d e less few a.1

abbrev no_actions : List PendingAction
no_actions = []

take_none : (n : ℕ) → take n no_actions ≡ no_actions
take_none zero = refl
take_none (suc n) = refl

-- all of them
pub paired_within : (ms : List Made) (ks : List (Option (List (List ℤ)))) (n : ℕ) → (n ≡ length ms) ⊎ (n ≡ length ks) → take n (paired ms ks) ≡ paired ms ks
paired_within [] ks n h = take_none n
paired_within (m ∷ ms) [] n h = take_none n
paired_within (m ∷ ms) (k ∷ ks) zero (inl h) = absurd (omega arith)
paired_within (m ∷ ms) (k ∷ ks) zero (inr h) = absurd (omega arith)
paired_within (m ∷ ms) (k ∷ ks) (suc n) (inl h) = let e : n ≡ length ms = omega arith in ap (λ ps. entry m k ∷ ps) (paired_within ms ks n (inl e))
paired_within (m ∷ ms) (k ∷ ks) (suc n) (inr h) = let e : n ≡ length ks = omega arith in ap (λ ps. entry m k ∷ ps) (paired_within ms ks n (inr e))
