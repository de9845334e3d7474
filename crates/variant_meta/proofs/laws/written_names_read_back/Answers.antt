use Rattle.variant_meta.specs.Written.{written_size, coded_names}
use Rattle.variant_meta.proofs.ReadBack.{read_back}
use Rattle.variant_meta.proofs.Sizes.{dictionary_fits}
use Rattle.variant_meta.proofs.laws.written_names_read_back.Goals as goal

pub returns : goal.returns
unfolding coded_names
returns c = λ ns least rest is utf8 low high.
    let fits = dictionary_fits least ns is low high in
    read_back (written_size least ns) ns rest fits.0 fits.1 fits.2 fits.3 is.rising utf8
