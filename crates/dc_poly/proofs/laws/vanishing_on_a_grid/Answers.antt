use Rattle.dc_poly.proofs.Vanish.{vanishing}
use Rattle.dc_poly.proofs.laws.vanishing_on_a_grid.Goals as goal

pub returns : goal.returns
returns c n d p o v m = vanishing n d p o v m
