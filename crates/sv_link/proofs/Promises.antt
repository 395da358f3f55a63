-- What joined threads gave keeps what their jobs promised, one thread more at a time.
use Rattle.std.proofs.Common.{List, [], ◌∷◌, ◌++◌, map}
use Rattle.std.specs.List.{AllZip}

pub kept_more : {H A B : Type 0} (f : H → A) (R : A → B → Type 0) (hs : List H) (ys : List B) (h : H) (y : B)
    → AllZip R (map f hs) ys → R (f h) y → AllZip R (map f (hs ++ h ∷ [])) (ys ++ y ∷ [])
kept_more f R [] [] h y all one = (one, tt)
kept_more f R [] (b ∷ ys) h y all one = absurd all
kept_more f R (a ∷ hs) [] h y all one = absurd all
kept_more f R (a ∷ hs) (b ∷ ys) h y all one = (all.0, kept_more f R hs ys h y all.1 one)
