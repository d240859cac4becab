-- What a form is: its elements, ascending, and its constant.
use Rattle.std.specs.Prelude.{ℕ, Bool, false, not, List, [], ◌∷◌, vec_items}
use Rattle.values.specs.Bits.{xor}
use Rattle.form.specs.Sets.{symmetric_difference}
use Rattle.form.specs.declared.form.Form.{Form}

pub record Shape : Type 0 where
  pub set : List ℕ
  pub constant : Bool

abbrev pub shape : Form → Shape
shape f = record { set = vec_items f.elements; constant = f.constant }

abbrev pub zero_form : Shape
zero_form = record { set = []; constant = false }

abbrev pub element_form : ℕ → Shape
element_form i = record { set = i ∷ []; constant = false }

abbrev pub xor_form : Shape → Shape → Shape
xor_form f g = record { set = symmetric_difference f.set g.set; constant = xor f.constant g.constant }

abbrev pub inverted_form : Shape → Shape
inverted_form f = record { set = f.set; constant = not f.constant }
