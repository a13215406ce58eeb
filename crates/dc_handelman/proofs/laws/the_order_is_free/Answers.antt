use Rattle.dc_handelman.proofs.Reordered.{order_is_free, each_is_sorted, each_product_stands}
use Rattle.dc_handelman.proofs.laws.the_order_is_free.Goals as goal

pub returns : goal.returns
returns c = record { order = order_is_free; sorted = each_is_sorted; listed = each_product_stands }
