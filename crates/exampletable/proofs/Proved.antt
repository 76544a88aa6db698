-- The checked examples of rule 12.4 hold of the definitions that the promises cite.
-- By computation: each is the definition run.
use mathlib.Core.Path.{refl}
use Rattle.scan.specs.Place.{within}
use Rattle.varint.specs.Uleb.{uleb_in, uleb}
use Rattle.varint.specs.Varint.{spelled, varint_at}
use Rattle.hexdigits.specs.Hex.{value_of, unhex, all_digits, goes_as_bytes}
use Rattle.notepack.specs.Strict.{pack_element}
use Rattle.nson.proofs.Example.{example_field, example_length, example_read, example_refused}
use Rattle.exampletable.specs.inner.Table.{CheckedExamples}

pub checked_examples : CheckedExamples
unfolding uleb_in uleb spelled varint_at within value_of unhex all_digits goes_as_bytes pack_element
checked_examples =
    record {
      example_1 = refl;
      example_2 = refl;
      example_3 = refl;
      example_4 = refl;
      example_5 = refl;
      example_6 = refl;
      example_7 = refl;
      example_8 = refl;
      example_9 = refl;
      example_10 = refl;
      example_11 = refl;
      example_12 = (example_field, example_length, example_read);
      example_13 = example_refused.0;
      example_14 = example_refused.1;
      example_15 = example_refused.2;
    }
