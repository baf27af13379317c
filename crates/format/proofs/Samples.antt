-- 01, "One session, whole": it is what is printed of the file that it says, and is read back; cut off, it is refused where 01 says.
use mathlib.Core.Path.{◌≡◌, refl}
use mathlib.Core.List.{[], ◌∷◌}
use Prim.Native.Nat.{◌≤◌}
use native.Mathlib.Omega.{arith}
use lib.ListN.{length, take}
use Rattle.term.specs.declared.parts.Side.TheVariants.{Left}
use Rattle.term.specs.Heads as H
use Rattle.term.specs.Trees.{words, depth}
use Rattle.term.specs.Terms as T
use Rattle.term.specs.Terms.{term_words}
use Rattle.declarations.specs.Declarations.{is_index, is_variable}
use Rattle.text.specs.Pieces.{Text}
use Rattle.format.specs.Files.{Variable, variable_text, File, print, max_bytes, all_indices, all_variables, all_steps, InOrder}
use Rattle.format.specs.Reading.{good, wrong, fault, read, variable_in, and_variable, take_variable, read_of}
use Rattle.format.proofs.Whole.{reads}

session : Text
session =
    116 ∷ 121 ∷ 112 ∷ 101 ∷ 115 ∷ 61 ∷ 49 ∷ 10 ∷ 98 ∷ 97 ∷ 115 ∷ 105 ∷ 115 ∷ 61 ∷ 49 ∷ 58 ∷ 48 ∷ 10 ∷ 118 ∷ 97 ∷ 114 ∷ 61 ∷ 79 ∷ 32 ∷ 49 ∷ 58 ∷ 48 ∷ 32 ∷ 49 ∷ 58 ∷ 48 ∷
    10 ∷ 108 ∷ 101 ∷ 102 ∷ 116 ∷ 61 ∷ 50 ∷ 50 ∷ 32 ∷ 49 ∷ 56 ∷ 32 ∷ 49 ∷ 53 ∷ 32 ∷ 49 ∷ 58 ∷ 48 ∷ 32 ∷ 49 ∷ 54 ∷ 32 ∷ 51 ∷ 58 ∷ 48 ∷ 10 ∷ 114 ∷ 105 ∷ 103 ∷ 104 ∷ 116 ∷
    61 ∷ 49 ∷ 54 ∷ 32 ∷ 51 ∷ 58 ∷ 48 ∷ 10 ∷ 115 ∷ 116 ∷ 101 ∷ 112 ∷ 61 ∷ 76 ∷ 32 ∷ 55 ∷ 49 ∷ 32 ∷ 49 ∷ 32 ∷ 48 ∷ 32 ∷ 48 ∷ 10 ∷ 115 ∷ 116 ∷ 101 ∷ 112 ∷ 61 ∷ 76 ∷ 32 ∷ 49
    ∷ 48 ∷ 50 ∷ 32 ∷ 48 ∷ 32 ∷ 48 ∷ 32 ∷ 48 ∷ 10 ∷ 101 ∷ 110 ∷ 100 ∷ 61 ∷ 50 ∷ 10 ∷ []

says : File
says = record {
  types = 1;
  bases = (256 ∷ []) ∷ [];
  variables = record { kind = 3; first = 256 ∷ []; second = 256 ∷ [] } ∷ [];
  left = 5632 ∷ 4608 ∷ 3840 ∷ 256 ∷ 4096 ∷ 768 ∷ [];
  right = 4096 ∷ 768 ∷ [];
  steps = record { side = Left; step = record { rule = 71; place = 1; i = 0; j = 0 } } ∷ record { side = Left; step = record { rule = 102; place = 0; i = 0; j = 0 } } ∷ [];
}

printed : session ≡ print says
unfolding session says print H.read
printed = refl

in_order_lem : InOrder says
unfolding says all_indices all_variables is_index is_variable term_words H.read H.word words depth T.declared T.known all_steps
in_order_lem = record {
  declared = record { few_types = omega arith; few_bases = omega arith; bases = refl; few_variables = omega arith; variables = refl };
  left = refl;
  right = refl;
  few_steps = omega arith;
  steps = refl;
}

small : length session ≤ max_bytes
unfolding session
small = omega arith

-- 109 bytes, read back; none; cut off in line 3; cut off behind line 2, where a var line or left= would come
the_examples : (read_of session ≡ read says) × (read_of [] ≡ fault 3 1) × (read_of (take 20 session) ≡ fault 3 3) × (read_of (take 18 session) ≡ fault 4 3)
unfolding session read_of H.read H.word words is_index
the_examples = ((reads session says).1 (record { printed = printed; order = in_order_lem; small = small }), refl, refl, refl)

-- ---- 02, CR 7: "var=U INDEX". `U 1:0` is the operator of 1:0 and 1:0, marked, and so written; `U` and `U 1:0 1:0` are 7, `U ` is 5
unitary : Variable
unitary = record { kind = 7; first = 256 ∷ []; second = 256 ∷ [] }

one_type : File
one_type = record { types = 1; bases = []; variables = []; left = []; right = []; steps = [] }

the-marks :
    (variable_text unitary ≡ 85 ∷ 32 ∷ 49 ∷ 58 ∷ 48 ∷ [])
    × (take_variable one_type (variable_in (85 ∷ 32 ∷ 49 ∷ 58 ∷ 48 ∷ [])) ≡ good (and_variable one_type unitary))
    × (take_variable one_type (variable_in (85 ∷ [])) ≡ wrong 7)
    × (take_variable one_type (variable_in (85 ∷ 32 ∷ 49 ∷ 58 ∷ 48 ∷ 32 ∷ 49 ∷ 58 ∷ 48 ∷ [])) ≡ wrong 7)
    × (take_variable one_type (variable_in (85 ∷ 32 ∷ [])) ≡ wrong 5)
unfolding unitary one_type variable_text variable_in take_variable is_index is_variable H.read H.word words
the-marks = (refl, refl, refl, refl, refl)
