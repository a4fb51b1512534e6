use Rattle.site.proofs.Figuring.{figure_only, figure_meant}
use Rattle.site.proofs.figure.figures_stand.Goals as goal

pub returns : goal.returns
returns c = λ packets sendings f. (figure_only packets sendings f, figure_meant packets sendings)
