-- What the check leaves to prove of `post`.
use Rattle.std.proofs.Common.{inl, inr, refl}
use Rattle.sv_session.proofs.Posted.{put_failed, put_whole, flush_failed}
use Rattle.sv_session.proofs.posting.post.Goals as goal

pub returns-in-Failed-clause-posts : goal.returns-in-Failed-clause-posts
returns-in-Failed-clause-posts g c = put_failed _ _ _ _ _ _ _ _ c.in-Failed.ensures.posts (λ e. cc) (inl refl)

pub returns-in-Memory-clause-posts : goal.returns-in-Memory-clause-posts
returns-in-Memory-clause-posts g c = put_failed _ _ _ _ _ _ _ _ c.in-Memory.ensures.posts (λ e. cc) (inr refl)

pub returns-in-Failed-flush-clause-posts : goal.returns-in-Failed-flush-clause-posts
returns-in-Failed-flush-clause-posts g c =
    flush_failed _ _ _ _ (put_whole _ _ _ _ _ c.in-Whole.ensures.posts) _ _ _ _ c.in-Failed-flush.ensures.sends (λ e. cc) (inl refl)

pub returns-in-Memory-flush-clause-posts : goal.returns-in-Memory-flush-clause-posts
returns-in-Memory-flush-clause-posts g c =
    flush_failed _ _ _ _ (put_whole _ _ _ _ _ c.in-Whole.ensures.posts) _ _ _ _ c.in-Memory-flush.ensures.sends (λ e. cc) (inr refl)
