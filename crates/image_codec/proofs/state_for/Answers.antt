-- The contents at the engine read are the image's. Assumes nothing.
use Rattle.std.proofs.Common.{◌≡◌, Bool, true, false, cond, Some, None, refl, sym, ◌∙◌}
use Rattle.std.specs.Bool.{then_some}
use Rattle.tally.specs.Limits.{today}
use Rattle.contents.specs.declared.State.{State}
use Rattle.formats.specs.Images.{image_of, image_format, read_image}
use Rattle.formats.proofs.Places.{fit_checked}
use Rattle.formats.proofs.Steps.{read_engine}
use Rattle.image_codec.proofs.state_for.Goals as goal

as_cond : (b : Bool) (s : State) → then_some b s ≡ cond b (Some s) None
as_cond true s = refl
as_cond false s = refl

pub returns : goal.returns
unfolding read_image
returns c =
    rw (read_engine (image_format today) _ image_of (λ vs. refl) c.if-s-ne-IMAGE_SIZE.false _ (sym c.in_ok-engine_at.ensures))
    (rw (c.then_some.ensures, c.fits_at.ensures, c.log_at-front.ensures) (as_cond _ _) ∙ sym (fit_checked _ _))
