-- The settings that an analysis takes: the limits within which they lie.
use Rattle.std.specs.Prelude.{ℕ, ◌≤◌}
use Rattle.dc_cert.specs.declared.certificate.Settings.{Settings}

-- the greatest degree of a template, the most factors of a product, the most pivots of a problem
abbrev pub most_degree : ℕ
most_degree = 3

abbrev pub most_products : ℕ
most_products = 3

abbrev pub most_pivots : ℕ
most_pivots = 1000000

pub record AreSettings (s : Settings) : Type 0 where
  pub degree : s.degree ≤ most_degree
  pub some_products : 1 ≤ s.products
  pub few_products : s.products ≤ most_products
  pub some_pivots : 1 ≤ s.pivots
  pub few_pivots : s.pivots ≤ most_pivots
