mod MetLemmas
