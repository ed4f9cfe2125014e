mod FieldLemmas
mod FrontLemmas
mod WindowLemmas
mod ResponseLemmas
