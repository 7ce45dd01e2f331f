use Rattle.std.proofs.Common.{◌≡◌, ◌+◌, ◌*◌, ◌∙◌, arith}
use Rattle.bittle_bits.proofs.RotatedProducts.{rotated_product}
use Rattle.bittle_bits.proofs.internal.buffer.bit_count.Given.{Over}
use Rattle.bittle_bits.proofs.internal.buffer.bit_count.Goals.{After-rotate_left}
use Rattle.bittle_bits.proofs.internal.buffer.bit_count.Goals as goal

-- the rotation is the product
product : (g : Over) (c : After-rotate_left g) →
    c.rotate_left.result ≡ c.args.words * g.W.Word.width
product g c =
    let e = g.met.W.Word.whole_bytes in
    let is = c.width.ensures ∙ e.1 in
    rw e.1 ((rw is at c.rotate_left.ensures)
    ∙ rotated_product c.args.words (3 + e.0) (omega arith) (rw is at c.width.type_inv)
    (rw e.1 at c.requires))

pub overflow_cast-result : goal.overflow_cast-result
overflow_cast-result g c = rw (product g c) (omega (arith, c.requires))

pub returns : goal.returns
returns g c = product g c
