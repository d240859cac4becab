use Rattle.polynomials.specs.Polynomials.{coefficients}
use Rattle.polynomials.proofs.Products.{product_sums}
use Rattle.polynomials.proofs.words.sums_of_product.Goals as goal

pub returns : goal.returns
returns c =
    record {
      has_the_product_as_subset_sums =
          product_sums 6 (coefficients 6 c.args.a) (coefficients 6 c.args.b) c.subset_sums.result c.subset_sums-2.result
          c.subset_sums.ensures.are_the_subset_sums
          c.subset_sums-2.ensures.are_the_subset_sums;
    }
